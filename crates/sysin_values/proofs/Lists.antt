-- Lists of things with a comma between each two.
use Rattle.std.proofs.Common.{◌≡◌, ◌⊎◌, inl, inr, ◌+◌, List, [], ◌∷◌, ◌++◌, length, refl, sym, ap, subst, ◌∙◌, arith, append_assoc, append-nil}
use Rattle.sysin_text.specs.declared.token.Token.{Token}
use Rattle.sysin_text.specs.declared.token.Token.TheVariants.{Comma}
use Rattle.sysin_values.specs.Series.{IsListOf, IsBefore}

-- the tokens of a thing begin those of no other
abbrev pub IsClosed : {X : Type 0} → (X → List Token → Type 0) → Type 0
IsClosed {X} Spells = (x y : X) (s t a b : List Token) → Spells x s → Spells y t → s ++ a ≡ t ++ b → (s ≡ t) × (a ≡ b)

-- tokens are of one thing at most
abbrev pub IsOne : {X : Type 0} → (X → List Token → Type 0) → Type 0
IsOne {X} Spells = (x y : X) (text : List Token) → Spells x text → Spells y text → x ≡ y

-- one more thing
pub list_more : {X : Type 0} (Spells : X → List Token → Type 0) (list : List X) (front : List Token) (x : X) (text : List Token)
    → IsListOf Spells list front → Spells x text → IsListOf Spells (list ++ x ∷ []) (front ++ Comma ∷ text)
list_more Spells [] front x text l s = absurd l
list_more Spells (first ∷ []) front x text l s = (front, text, refl, l, s)
list_more Spells (first ∷ second ∷ list) front x text l s = (
  l.0,
  l.1 ++ Comma ∷ text,
  ap (λ (t : List Token). t ++ Comma ∷ text) l.2 ∙ append_assoc l.0 (Comma ∷ l.1) (Comma ∷ text),
  l.3,
  list_more Spells (second ∷ list) l.1 x text l.4 s,
)

pub before_more : {X : Type 0} (Spells : X → List Token → Type 0) (list : List X) (front : List Token) (x : X) (text : List Token)
    → IsBefore Spells list front → Spells x text → IsListOf Spells (list ++ x ∷ []) (front ++ text)
before_more Spells list front x text (inl none) s = rw (none.0, none.1) s
before_more Spells list front x text (inr some) s = rw (some.1, append_assoc some.0 (Comma ∷ []) text) (list_more Spells list some.0 x text some.2 s)

-- tokens behind those of a list: none, or a comma and those of more things
pub record IsRest {X : Type 0} (Spells : X → List Token → Type 0) (list all : List X) (more : List Token) : Type 0 where
  pub rest : List Token
  pub others : List X
  pub comma : more ≡ Comma ∷ rest
  pub spelled : IsListOf Spells others rest
  pub count : length all ≡ length list + length others

pub behind_list : {X : Type 0} (Spells : X → List Token → Type 0) → IsClosed Spells → (list all : List X) (front more : List Token)
    → IsListOf Spells list front → IsListOf Spells all (front ++ more) → (more ≡ []) ⊎ IsRest Spells list all more
behind_list Spells closed [] all front more l a = absurd l
behind_list Spells closed (x ∷ []) [] front more l a = absurd a
behind_list Spells closed (x ∷ []) (y ∷ []) front more l a =
    let cut = closed x y front (front ++ more) more [] l a (sym (append-nil (front ++ more))) in
    inl cut.1
behind_list Spells closed (x ∷ []) (y ∷ next ∷ others) front more l a =
    let cut = closed x y front a.0 more (Comma ∷ a.1) l a.3 a.2 in
    inr (record { rest = a.1; others = next ∷ others; comma = cut.1; spelled = a.4; count = omega arith })
behind_list Spells closed (x ∷ second ∷ list) [] front more l a = absurd a
behind_list Spells closed (x ∷ second ∷ list) (y ∷ []) front more l a =
    let whole : front ++ more ≡ l.0 ++ Comma ∷ (l.1 ++ more) = ap (λ (t : List Token). t ++ more) l.2 ∙ append_assoc l.0 (Comma ∷ l.1) more in
    let cut = closed x y l.0 (front ++ more) (Comma ∷ (l.1 ++ more)) [] l.3 a (sym whole ∙ sym (append-nil (front ++ more))) in
    let none : Comma ∷ (l.1 ++ more) ≡ [] = cut.1 in
    cc
behind_list {X} Spells closed (x ∷ second ∷ list) (y ∷ next ∷ others) front more l a =
    let whole : front ++ more ≡ l.0 ++ Comma ∷ (l.1 ++ more) = ap (λ (t : List Token). t ++ more) l.2 ∙ append_assoc l.0 (Comma ∷ l.1) more in
    let cut = closed x y l.0 a.0 (Comma ∷ (l.1 ++ more)) (Comma ∷ a.1) l.3 a.3 (sym whole ∙ a.2) in
    let same : a.1 ≡ l.1 ++ more = cc in
    let spelled : IsListOf Spells (next ∷ others) (l.1 ++ more) = subst (λ (t : List Token). IsListOf Spells (next ∷ others) t) same a.4 in
    counted Spells x y (second ∷ list) (next ∷ others) more (behind_list Spells closed (second ∷ list) (next ∷ others) l.1 more l.4 spelled)
  where
    counted : {X : Type 0} (Spells : X → List Token → Type 0) (x y : X) (list all : List X) (more : List Token) → (more ≡ []) ⊎ IsRest Spells list all more
        → (more ≡ []) ⊎ IsRest Spells (x ∷ list) (y ∷ all) more
    counted Spells x y list all more (inl none) = inl none
    counted Spells x y list all more (inr r) = inr (record { rest = r.rest; others = r.others; comma = r.comma; spelled = r.spelled; count = let count = r.count in omega arith })

-- tokens behind a comma or nothing
pub behind_before : {X : Type 0} (Spells : X → List Token → Type 0) → IsClosed Spells → (list all : List X) (front more : List Token)
    → IsBefore Spells list front → IsListOf Spells all (front ++ more) → (others : List X) × IsListOf Spells others more × (length all ≡ length list + length others)
behind_before Spells closed list all front more (inl none) a =
    let same : front ++ more ≡ more = ap (λ (t : List Token). t ++ more) none.1 in
    let count : length list ≡ 0 = ap length none.0 in
    (all, subst (λ (t : List Token). IsListOf Spells all t) same a, omega arith)
behind_before {X} Spells closed list all front more (inr some) a =
    let same : front ++ more ≡ some.0 ++ Comma ∷ more = ap (λ (t : List Token). t ++ more) some.1 ∙ append_assoc some.0 (Comma ∷ []) more in
    let b = behind_list Spells closed list all some.0 (Comma ∷ more) some.2 (subst (λ (t : List Token). IsListOf Spells all t) same a) in
    found b
  where
    found : (Comma ∷ more ≡ []) ⊎ IsRest Spells list all (Comma ∷ more) → (others : List X) × IsListOf Spells others more × (length all ≡ length list + length others)
    found (inl none) = cc
    found (inr r) =
        let same : r.rest ≡ more = cc in
        (r.others, subst (λ (t : List Token). IsListOf Spells r.others t) same r.spelled, r.count)

-- tokens are of one list at most
pub one_list : {X : Type 0} (Spells : X → List Token → Type 0) → IsClosed Spells → IsOne Spells → (list all : List X) (text : List Token)
    → IsListOf Spells list text → IsListOf Spells all text → list ≡ all
one_list Spells closed one [] all text l a = absurd l
one_list Spells closed one (x ∷ []) [] text l a = absurd a
one_list Spells closed one (x ∷ []) (y ∷ []) text l a = ap (λ (z : _). z ∷ []) (one x y text l a)
one_list Spells closed one (x ∷ []) (y ∷ next ∷ others) text l a =
    let cut = closed x y text a.0 [] (Comma ∷ a.1) l a.3 (append-nil text ∙ a.2) in
    let none : [] ≡ Comma ∷ a.1 = cut.1 in
    cc
one_list Spells closed one (x ∷ second ∷ list) [] text l a = absurd a
one_list Spells closed one (x ∷ second ∷ list) (y ∷ []) text l a =
    let cut = closed x y l.0 text (Comma ∷ l.1) [] l.3 a (sym l.2 ∙ sym (append-nil text)) in
    let none : Comma ∷ l.1 ≡ [] = cut.1 in
    cc
one_list Spells closed one (x ∷ second ∷ list) (y ∷ next ∷ others) text l a =
    let cut = closed x y l.0 a.0 (Comma ∷ l.1) (Comma ∷ a.1) l.3 a.3 (sym l.2 ∙ a.2) in
    let same : a.1 ≡ l.1 = cc in
    let heads : x ≡ y = one x y l.0 l.3 (subst (λ (t : List Token). Spells y t) (sym cut.0) a.3) in
    let tails : second ∷ list ≡ next ∷ others = one_list Spells closed one (second ∷ list) (next ∷ others) l.1 l.4 (subst (λ (t : List Token). IsListOf Spells (next ∷ others) t) same a.4) in
    cc
