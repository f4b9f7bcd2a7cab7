-- Things one behind the other.
use Rattle.std.proofs.Common.{◌≡◌, ◌≢◌, ◌⊎◌, inl, inr, ℕ, List, [], ◌∷◌, ◌++◌, refl, sym, ap, subst, ◌∙◌, append_assoc, append-nil}
use Rattle.std.specs.Prelude.{map}
use Rattle.sysin_text.specs.declared.token.Token.{Token}
use Rattle.sysin_text.specs.declared.token.Token.TheVariants.{Comma, Word}
use Rattle.sysin_filters.specs.Filter.{IsSeriesOf}

-- ---- one more thing

-- what may stand before a thing
abbrev pub StandBefore : {X : Type 0} → (X → List Token → Type 0) → List X → List Token → Type 0
StandBefore {X} Spells list text =
    ((list ≡ []) × (text ≡ [])) ⊎ ((list ≢ []) × (IsSeriesOf Spells list text ⊎ ((front : List Token) × (text ≡ front ++ Comma ∷ []) × IsSeriesOf Spells list front)))

abbrev pub AreJoined : List Token → List Token → List Token → Type 0
AreJoined text first rest = (text ≡ first ++ rest) ⊎ (text ≡ first ++ Comma ∷ rest)

grow : (text first rest more : List Token) → AreJoined text first rest → AreJoined (text ++ more) first (rest ++ more)
grow text first rest more (inl e) = inl (ap (λ (t : List Token). t ++ more) e ∙ append_assoc first rest more)
grow text first rest more (inr e) = inr (ap (λ (t : List Token). t ++ more) e ∙ append_assoc first (Comma ∷ rest) more)

put_behind : {X : Type 0} (Spells : X → List Token → Type 0) (first x : X) (list : List X) (front text whole : List Token) → AreJoined whole front text
    → IsSeriesOf Spells (first ∷ list) front → Spells x text → IsSeriesOf Spells (first ∷ (list ++ x ∷ [])) whole
put_behind Spells first x [] front text whole j s t = (front, text, j, s, t)
put_behind Spells first x (second ∷ list) front text whole (inl j) (a, b, joined, s, more) t = (
  a,
  b ++ text,
  subst (λ (w : List Token). AreJoined w a (b ++ text)) (sym j) (grow front a b text joined),
  s,
  put_behind Spells second x list b text (b ++ text) (inl refl) more t,
)
put_behind Spells first x (second ∷ list) front text whole (inr j) (a, b, joined, s, more) t = (
  a,
  b ++ Comma ∷ text,
  subst (λ (w : List Token). AreJoined w a (b ++ Comma ∷ text)) (sym j) (grow front a b (Comma ∷ text) joined),
  s,
  put_behind Spells second x list b text (b ++ Comma ∷ text) (inr refl) more t,
)

pub series_more : {X : Type 0} (Spells : X → List Token → Type 0) (list : List X) (x : X) (front text : List Token) → StandBefore Spells list front → Spells x text
    → IsSeriesOf Spells (list ++ x ∷ []) (front ++ text)
series_more Spells list x front text (inl none) s = rw (none.0, none.1) s
series_more Spells [] x front text (inr (some, b)) s = absurd (some refl)
series_more Spells (first ∷ list) x front text (inr (some, inl b)) s = put_behind Spells first x list front text (front ++ text) (inl refl) b s
series_more Spells (first ∷ list) x front text (inr (some, inr (before, e, b))) s =
    put_behind Spells first x list before text (front ++ text) (inr (ap (λ (t : List Token). t ++ text) e ∙ append_assoc before (Comma ∷ []) text)) b s

-- ---- what is spelled otherwise too

pub series_map : {X : Type 0} (Spells Other : X → List Token → Type 0) → ((x : X) (text : List Token) → Spells x text → Other x text) → (list : List X) (text : List Token)
    → IsSeriesOf Spells list text → IsSeriesOf Other list text
series_map Spells Other each [] text s = s
series_map Spells Other each (x ∷ []) text s = each x text s
series_map Spells Other each (x ∷ second ∷ list) text (a, b, joined, s, more) = (a, b, joined, each x a s, series_map Spells Other each (second ∷ list) b more)

-- ---- where a known series ends

abbrev pub BeginsWithWord : List Token → Type 0
BeginsWithWord text = (word : List ℕ) × (rest : List Token) × (text ≡ Word word ∷ rest)

-- things of both kinds agree as far as both go
pub record Agree {X K : Type 0} (Spells Other : X → List Token → Type 0) (key : X → K) : Type 0 where
  pub cut : (x y : X) (s t a b : List Token) → Spells x s → Other y t → s ++ a ≡ t ++ b → (s ≡ t) × (a ≡ b) × (key x ≡ key y)
  pub word : (x : X) (s : List Token) → Spells x s → BeginsWithWord s
  pub other_word : (x : X) (s : List Token) → Other x s → BeginsWithWord s

-- its first thing
pub first_of_series : {X : Type 0} (Spells : X → List Token → Type 0) (x : X) (list : List X) (text : List Token) → IsSeriesOf Spells (x ∷ list) text
    → (first : List Token) × (rest : List Token) × (text ≡ first ++ rest) × Spells x first
first_of_series Spells x [] text s = (text, [], sym (append-nil text), s)
first_of_series Spells x (second ∷ list) text (a, b, inl j, s, more) = (a, b, j, s)
first_of_series Spells x (second ∷ list) text (a, b, inr j, s, more) = (a, Comma ∷ b, j, s)

pub series_begins : {X : Type 0} (Spells : X → List Token → Type 0) → ((x : X) (s : List Token) → Spells x s → BeginsWithWord s) → (x : X) (list : List X) (text : List Token)
    → IsSeriesOf Spells (x ∷ list) text → BeginsWithWord text
series_begins Spells words x list text s =
    let f = first_of_series Spells x list text s in
    let w = words x f.0 f.3 in
    (w.0, w.1 ++ f.1, f.2 ∙ ap (λ (t : List Token). t ++ f.1) w.2)

-- things behind those of a known series
pub record IsBehind {X K : Type 0} (Other : X → List Token → Type 0) (key : X → K) (list all : List X) (more : List Token) : Type 0 where
  pub firsts : List X
  pub following : X
  pub others : List X
  pub rest : List Token
  pub all_is : all ≡ firsts ++ following ∷ others
  pub same : map key list ≡ map key firsts
  pub joined : AreJoined more [] rest
  pub spelled : IsSeriesOf Other (following ∷ others) rest

abbrev pub EndsOrGoes : {X K : Type 0} → (X → List Token → Type 0) → (X → K) → List X → List X → List Token → Type 0
EndsOrGoes {X} {K} Other key list all more = ((more ≡ []) × (map key list ≡ map key all)) ⊎ IsBehind Other key list all more

-- with a comma before or not
abbrev IsWith : List Token → List Token → Type 0
IsWith text rest = (text ≡ rest) ⊎ (text ≡ Comma ∷ rest)

tail_of : (text first rest more : List Token) → AreJoined text first rest → (tail : List Token) × (text ++ more ≡ first ++ (tail ++ more)) × IsWith tail rest
tail_of text first rest more (inl e) = (rest, ap (λ (t : List Token). t ++ more) e ∙ append_assoc first rest more, inl refl)
tail_of text first rest more (inr e) = (Comma ∷ rest, ap (λ (t : List Token). t ++ more) e ∙ append_assoc first (Comma ∷ rest) more, inr refl)

some_tail : (tail rest more : List Token) → IsWith tail rest → BeginsWithWord rest → ¬ (tail ++ more ≡ [])
some_tail tail rest more (inl e) (word, after, w) none = let same : tail ++ more ≡ (Word word ∷ after) ++ more = ap (λ (t : List Token). t ++ more) (e ∙ w) in cc
some_tail tail rest more (inr e) w none = let same : tail ++ more ≡ (Comma ∷ rest) ++ more = ap (λ (t : List Token). t ++ more) e in cc

same_rest : (tail other rest more b : List Token) → IsWith tail rest → IsWith other b → BeginsWithWord rest → BeginsWithWord b → tail ++ more ≡ other → b ≡ rest ++ more
same_rest tail other rest more b (inl e) (inl f) w v same = sym f ∙ sym same ∙ ap (λ (t : List Token). t ++ more) e
same_rest tail other rest more b (inl e) (inr f) (word, after, w) v same =
    let both : (Word word ∷ after) ++ more ≡ Comma ∷ b = sym (ap (λ (t : List Token). t ++ more) (e ∙ w)) ∙ same ∙ f in
    cc
same_rest tail other rest more b (inr e) (inl f) w (word, after, v) same =
    let both : Comma ∷ (rest ++ more) ≡ Word word ∷ after = sym (ap (λ (t : List Token). t ++ more) e) ∙ same ∙ f ∙ v in
    cc
same_rest tail other rest more b (inr e) (inr f) w v same =
    let both : Comma ∷ (rest ++ more) ≡ Comma ∷ b = sym (ap (λ (t : List Token). t ++ more) e) ∙ same ∙ f in
    cc

one_more : {X K : Type 0} (Other : X → List Token → Type 0) (key : X → K) (x y : X) (list all : List X) (more : List Token) → key x ≡ key y → EndsOrGoes Other key list all more
    → EndsOrGoes Other key (x ∷ list) (y ∷ all) more
one_more Other key x y list all more same (inl e) = let keys = e.1 in inl (e.0, cc)
one_more Other key x y list all more same (inr b) = inr (record {
  firsts = y ∷ b.firsts;
  following = b.following;
  others = b.others;
  rest = b.rest;
  all_is = ap (λ (l : List _). y ∷ l) b.all_is;
  same = let keys = b.same in cc;
  joined = b.joined;
  spelled = b.spelled;
})

-- where both go on they do so with the same tokens
go_on : {X K : Type 0} (Spells Other : X → List Token → Type 0) (key : X → K) → Agree Spells Other key → (x y second third : X) (list others : List X) (front more a b d e : List Token)
    → AreJoined front a b → AreJoined (front ++ more) d e → Spells x a → IsSeriesOf Spells (second ∷ list) b → Other y d → IsSeriesOf Other (third ∷ others) e
    → (e ≡ b ++ more) × (key x ≡ key y)
go_on Spells Other key agree x y second third list others front more a b d e j k s later o rest = by_tail (tail_of front a b more j) (other_tail k)
  where
    other_tail : AreJoined (front ++ more) d e → (tail : List Token) × (front ++ more ≡ d ++ tail) × IsWith tail e
    other_tail (inl k) = (e, k, inl refl)
    other_tail (inr k) = (Comma ∷ e, k, inr refl)

    by_tail : ((tail : List Token) × (front ++ more ≡ a ++ (tail ++ more)) × IsWith tail b) → ((tail : List Token) × (front ++ more ≡ d ++ tail) × IsWith tail e) → (e ≡ b ++ more) × (key x ≡ key y)
    by_tail (tail, whole, w) (other, f, v) =
        let c = agree.cut x y a d (tail ++ more) other s o (sym whole ∙ f) in
        (same_rest tail other b more e w v (series_begins Spells agree.word second list b later) (series_begins Other agree.other_word third others e rest) c.1, c.2)

pub behind : {X K : Type 0} (Spells Other : X → List Token → Type 0) (key : X → K) → Agree Spells Other key → (x : X) (list all : List X) (front more : List Token)
    → IsSeriesOf Spells (x ∷ list) front → IsSeriesOf Other all (front ++ more) → EndsOrGoes Other key (x ∷ list) all more
behind Spells Other key agree x list [] front more s none =
    let w = series_begins Spells agree.word x list front s in
    let same : front ++ more ≡ (Word w.0 ∷ w.1) ++ more = ap (λ (t : List Token). t ++ more) w.2 in
    cc
behind Spells Other key agree x [] (y ∷ []) front more s o =
    let c = agree.cut x y front (front ++ more) more [] s o (sym (append-nil (front ++ more))) in
    let keys = c.2 in
    inl (c.1, cc)
behind Spells Other key agree x [] (y ∷ second ∷ others) front more s (a, b, inl j, o, rest) =
    let c = agree.cut x y front a more b s o j in
    let keys = c.2 in
    inr (record { firsts = y ∷ []; following = second; others = others; rest = b; all_is = refl; same = cc; joined = inl c.1; spelled = rest })
behind Spells Other key agree x [] (y ∷ second ∷ others) front more s (a, b, inr j, o, rest) =
    let c = agree.cut x y front a more (Comma ∷ b) s o j in
    let keys = c.2 in
    inr (record { firsts = y ∷ []; following = second; others = others; rest = b; all_is = refl; same = cc; joined = inr c.1; spelled = rest })
behind Spells Other key agree x (second ∷ list) (y ∷ []) front more (a, b, j, s, later) o =
    let t = tail_of front a b more j in
    let c = agree.cut x y a (front ++ more) (t.0 ++ more) [] s o (sym t.1 ∙ sym (append-nil (front ++ more))) in
    absurd (some_tail t.0 b more t.2 (series_begins Spells agree.word second list b later) c.1)
behind Spells Other key agree x (second ∷ list) (y ∷ third ∷ others) front more (a, b, j, s, later) (d, e, k, o, rest) =
    let g = go_on Spells Other key agree x y second third list others front more a b d e j k s later o rest in
    one_more Other key x y (second ∷ list) (third ∷ others) more g.1
    (behind Spells Other key agree second list (third ∷ others) b more later (subst (λ (z : List Token). IsSeriesOf Other (third ∷ others) z) g.0 rest))
