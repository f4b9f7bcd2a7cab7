-- Renames, and what stays a name.
use Rattle.std.proofs.Common.{◌≡◌, ◌≢◌, ℕ, ◌+◌, ◌-◌, ◌<◌, ◌≤◌, inl, inr, Bool, cond, ltb, List, [], ◌∷◌, ◌++◌, length, take, drop, replicate, get_or, All, refl, sym, ap, subst, ◌∙◌, append_assoc, arith, length-append}
use Rattle.std.specs.Char.{to_ascii_uppercase}
use Rattle.std.specs.List.{AllByRecursion}
use Rattle.std.proofs.lemmas.Bool.{lt-ltb}
use Rattle.std.proofs.lemmas.List.{drop_more, map-append, take_at, drop_at, drop-drop, drop-replicate, length-map}
use Rattle.std.proofs.lemmas.List.Elements.{recursion_from_All, All-from_recursion}
use Rattle.dsn_filter.specs.declared.dsn.Dsn.{Dsn}
use Rattle.dsn_filter.specs.Text.{capitals, dotted, qualifiers}
use Rattle.dsn_filter.specs.Qualifier.{IsInner, IsQualifier}
use Rattle.dsn_filter.specs.Dsn.{text_of, dsn_of, qualifiers_of, IsNameText, IsDsn}
use Rattle.dsn_filter.specs.Rename.{IsPrefix, with_prefix, IsListed}
use Rattle.dsn_filter.specs.declared.qualifier.Qualifier.{Qualifier}
use Rattle.dsn_filter.specs.OneQualifier.{word_of, IsOneQualifier}
use Rattle.dsn_filter.proofs.Forms.{name_form, qualifier_short}
use Rattle.dsn_filter.proofs.Parts.{joined_qualifiers, qualifiers_some}
use Rattle.dsn_filter.proofs.Named.{text_is, spelled_is}

pub same_dsn : (a b : Dsn) → a.len ≡ b.len → a.text ≡ b.text → a ≡ b
same_dsn a b p q =
    let first : a ≡ record { len = b.len; text = a.text } = ap (λ (n : ℕ). record { len = n; text = a.text }) p in
    first ∙ ap (λ (t : List ℕ). record { len = b.len; text = t }) q

-- the pair at a place has the name
pub listed_here : (pairs : List (Dsn × Dsn)) (place : ℕ) (d : Dsn × Dsn) (name : Dsn) → place < length pairs → (get_or pairs place d).0 ≡ name → IsListed (drop place pairs) name (get_or pairs place d).1
listed_here pairs place d name lt is = subst (λ (t : List (Dsn × Dsn)). IsListed t name (get_or pairs place d).1) (sym (drop_more pairs place d lt)) (inl (is, refl))

pub listed_later : (pairs : List (Dsn × Dsn)) (place : ℕ) (d : Dsn × Dsn) (name new : Dsn) → place < length pairs → (get_or pairs place d).0 ≢ name → IsListed (drop (place + 1) pairs) name new → IsListed (drop place pairs) name new
listed_later pairs place d name new lt other h = subst (λ (t : List (Dsn × Dsn)). IsListed t name new) (sym (drop_more pairs place d lt)) (inr (other, h))

pub listed_lawful : (pairs : List (Dsn × Dsn)) (name new : Dsn) → AllByRecursion (λ (pair : Dsn × Dsn). IsDsn pair.0 × IsDsn pair.1) pairs → IsDsn name → IsListed pairs name new → IsDsn new
listed_lawful [] name new each h is = subst IsDsn (sym is) h
listed_lawful (pair ∷ pairs) name new each h (inl (same, is)) = subst IsDsn (sym is) each.0.1
listed_lawful (pair ∷ pairs) name new each h (inr (other, later)) = listed_lawful pairs name new each.1 h later

-- ---- capitals stay

upper_inner : (c : ℕ) → IsInner c → to_ascii_uppercase c ≡ c
upper_inner c h = ap (λ (t : Bool). cond t c (cond (ltb c 123) (c - 32) c)) (lt-ltb c 97 (omega arith))

capital_inner : (r : List ℕ) → AllByRecursion IsInner r → capitals r ≡ r
capital_inner [] h = refl
capital_inner (c ∷ r) h =
    let first : to_ascii_uppercase c ≡ c = upper_inner c h.0 in
    let rest : capitals r ≡ r = capital_inner r h.1 in cc

capital_qualifier : (q : List ℕ) → IsQualifier q → capitals q ≡ q
capital_qualifier [] h = absurd h
capital_qualifier (c ∷ r) h =
    let first : to_ascii_uppercase c ≡ c = upper_inner c (inl h.0) in
    let rest : capitals r ≡ r = capital_inner r (recursion_from_All IsInner r h.1) in cc

capital_joined : (qs : List (List ℕ)) → AllByRecursion IsQualifier qs → capitals (dotted qs) ≡ dotted qs
capital_joined [] h = refl
capital_joined (x ∷ []) h = capital_qualifier x h.0
capital_joined (x ∷ y ∷ ys) h =
    let first : capitals x ≡ x = capital_qualifier x h.0 in
    let rest : capitals (dotted (y ∷ ys)) ≡ dotted (y ∷ ys) = capital_joined (y ∷ ys) h.1 in
    map-append to_ascii_uppercase x (46 ∷ dotted (y ∷ ys)) ∙ ap (λ (t : List ℕ). t ++ (46 ∷ capitals (dotted (y ∷ ys)))) first ∙ ap (λ (t : List ℕ). x ++ (46 ∷ t)) rest

-- qualifiers are kept as a name
pub kept_name : (qs : List (List ℕ)) (name : Dsn) → All IsQualifier qs → 0 < length qs → length (dotted qs) ≤ 44 → name.len ≡ length (dotted qs)
    → name.text ≡ dotted qs ++ replicate (44 - length (dotted qs)) 0 → IsDsn name × (text_of name ≡ dotted qs)
kept_name qs name each some few len text =
    let capital : capitals (dotted qs) ≡ dotted qs = capital_joined qs (recursion_from_All IsQualifier qs each) in
    let is : name ≡ dsn_of (dotted qs) = same_dsn name (dsn_of (dotted qs)) len (text ∙ ap (λ (t : List ℕ). t ++ replicate (44 - length (dotted qs)) 0) (sym capital)) in
    let spelled : IsNameText (dotted qs) = (qs, record { each = each; some = some; short = few; joins = capital }) in
    ((dotted qs, spelled, is), text_is name (dotted qs) is ∙ capital)

-- ---- a prefix

pub prefix_is : (prefix : Dsn) → IsPrefix prefix → IsQualifier (text_of prefix)
prefix_is prefix (q, right, is) = subst IsQualifier (sym (text_is prefix q is ∙ capital_qualifier q right)) right

pub name_each : (name : Dsn) → IsDsn name → All IsQualifier (qualifiers_of name)
name_each name (spelling, (spelled, h), is) =
    subst (λ (qs : List (List ℕ)). All IsQualifier qs) (sym (ap qualifiers (text_is name spelling is) ∙ spelled_is IsQualifier name_form spelled spelling h)) h.each

pub prefixed_each : (prefix : List ℕ) (qs : List (List ℕ)) → AllByRecursion IsQualifier qs → IsQualifier prefix → AllByRecursion IsQualifier (with_prefix prefix qs)
prefixed_each prefix [] each right = (right, tt)
prefixed_each prefix (first ∷ []) each right = (right, each)
prefixed_each prefix (first ∷ second ∷ rest) each right = (right, each.1)

pub prefixed_some : (prefix : List ℕ) (qs : List (List ℕ)) → 0 < length (with_prefix prefix qs)
prefixed_some prefix [] = omega arith
prefixed_some prefix (first ∷ []) = omega arith
prefixed_some prefix (first ∷ second ∷ rest) = omega arith

several : (prefix first : List ℕ) (behind : List (List ℕ)) → 0 < length behind → dotted (with_prefix prefix (first ∷ behind)) ≡ prefix ++ (46 ∷ dotted behind)
several prefix first [] some = absurd (omega arith)
several prefix first (second ∷ rest) some = refl

-- the characters of the new name: what stands behind the first dot, or all
pub prefix_behind : (prefix text first rest : List ℕ) → qualifiers text ≡ first ∷ qualifiers rest → dotted (with_prefix prefix (qualifiers text)) ≡ prefix ++ (46 ∷ rest)
prefix_behind prefix text first rest apart =
    ap (λ (qs : List (List ℕ)). dotted (with_prefix prefix qs)) apart ∙ several prefix first (qualifiers rest) (qualifiers_some rest)
    ∙ ap (λ (t : List ℕ). prefix ++ (46 ∷ t)) (joined_qualifiers rest)

pub prefix_before : (prefix text first : List ℕ) → qualifiers text ≡ first ∷ [] → dotted (with_prefix prefix (qualifiers text)) ≡ prefix ++ (46 ∷ text)
prefix_before prefix text first apart =
    ap (λ (qs : List (List ℕ)). dotted (with_prefix prefix qs)) apart ∙ ap (λ (t : List ℕ). prefix ++ (46 ∷ t)) (sym (ap dotted apart) ∙ joined_qualifiers text)

-- a piece put where the zeros begin
pub put_more : (front piece text : List ℕ) (n at end : ℕ) → text ≡ front ++ replicate n 0 → length piece ≤ n → at ≡ length front → end ≡ at + length piece
    → take at text ++ (piece ++ drop end text) ≡ (front ++ piece) ++ replicate (n - length piece) 0
put_more front piece text n at end is fits at-is end-is =
    let zeros : List ℕ = replicate n 0 in
    let first : take at text ≡ front = ap (λ (t : List ℕ). take at t) is ∙ take_at front zeros at (sym at-is) in
    let past : drop end text ≡ drop (length piece) (drop at text) = ap (λ (i : ℕ). drop i text) end-is ∙ sym (drop-drop (length piece) at text) in
    let behind : drop at text ≡ zeros = ap (λ (t : List ℕ). drop at t) is ∙ drop_at front zeros at (sym at-is) in
    let left : drop end text ≡ replicate (n - length piece) 0 = past ∙ ap (λ (t : List ℕ). drop (length piece) t) behind ∙ drop-replicate (length piece) n 0 in
    ap (λ (t : List ℕ). t ++ (piece ++ drop end text)) first ∙ ap (λ (t : List ℕ). front ++ (piece ++ t)) left ∙ sym (append_assoc front piece (replicate (n - length piece) 0))

-- front, dot and rest are put one after the other
pub put_joined : (front behind t0 t1 t2 t3 : List ℕ) → length front + 1 + length behind ≤ 44 → t0 ≡ replicate 44 0
    → t1 ≡ take 0 t0 ++ (front ++ drop (0 + length front) t0)
    → t2 ≡ take (length front) t1 ++ ((46 ∷ []) ++ drop (length front + 1) t1)
    → t3 ≡ take (length front + 1) t2 ++ (behind ++ drop (length front + 1 + length behind) t2)
    → t3 ≡ (front ++ (46 ∷ behind)) ++ replicate (44 - length (front ++ (46 ∷ behind))) 0
put_joined front behind t0 t1 t2 t3 few zero-is one two three =
    let first : t1 ≡ front ++ replicate (44 - length front) 0 = one ∙ put_more [] front t0 44 0 (0 + length front) zero-is (omega arith) refl refl in
    let second : t2 ≡ (front ++ (46 ∷ [])) ++ replicate (44 - length front - 1) 0 =
    two ∙ put_more front (46 ∷ []) t1 (44 - length front) (length front) (length front + 1) first (omega arith) refl refl in
    let at : length front + 1 ≡ length (front ++ (46 ∷ [])) = omega (arith, length-append front (46 ∷ [])) in
    let third : t3 ≡ ((front ++ (46 ∷ [])) ++ behind) ++ replicate (44 - length front - 1 - length behind) 0 =
    three ∙ put_more (front ++ (46 ∷ [])) behind t2 (44 - length front - 1) (length front + 1) (length front + 1 + length behind) second (omega arith) at refl in
    let left : 44 - length front - 1 - length behind ≡ 44 - length (front ++ (46 ∷ behind)) = omega (arith, length-append front (46 ∷ behind)) in
    third ∙ ap (λ (n : ℕ). ((front ++ (46 ∷ [])) ++ behind) ++ replicate n 0) left
    ∙ ap (λ (t : List ℕ). t ++ replicate (44 - length (front ++ (46 ∷ behind))) 0) (append_assoc front (46 ∷ []) behind)

-- the new name is one
pub renamed : (prefix name new : Dsn) (kept : List ℕ) → IsPrefix prefix → IsDsn name → dotted (with_prefix (text_of prefix) (qualifiers_of name)) ≡ text_of prefix ++ (46 ∷ kept)
    → length (text_of prefix) + 1 + length kept ≤ 44
    → new.len ≡ length (text_of prefix ++ (46 ∷ kept))
    → new.text ≡ (text_of prefix ++ (46 ∷ kept)) ++ replicate (44 - length (text_of prefix ++ (46 ∷ kept))) 0
    → IsDsn new × (text_of new ≡ dotted (with_prefix (text_of prefix) (qualifiers_of name)))
renamed prefix name new kept p n is few len text =
    let qs : List (List ℕ) = with_prefix (text_of prefix) (qualifiers_of name) in
    kept_name qs new
    (All-from_recursion IsQualifier qs (prefixed_each (text_of prefix) (qualifiers_of name) (recursion_from_All IsQualifier (qualifiers_of name) (name_each name n)) (prefix_is prefix p)))
    (prefixed_some (text_of prefix) (qualifiers_of name))
    (omega (arith, ap length is, length-append (text_of prefix) (46 ∷ kept)))
    (len ∙ ap length (sym is)) (text ∙ ap (λ (t : List ℕ). t ++ replicate (44 - length t) 0) (sym is))

pub renamed_from : (prefix name new : Dsn) (front text kept : List ℕ) → IsPrefix prefix → IsDsn name → front ≡ text_of prefix → text ≡ text_of name
    → ((p : List ℕ) → dotted (with_prefix p (qualifiers text)) ≡ p ++ (46 ∷ kept)) → length front + 1 + length kept ≤ 44
    → new.len ≡ length (front ++ (46 ∷ kept)) → new.text ≡ (front ++ (46 ∷ kept)) ++ replicate (44 - length (front ++ (46 ∷ kept))) 0
    → IsDsn new × (text_of new ≡ dotted (with_prefix (text_of prefix) (qualifiers_of name)))
renamed_from prefix name new front text kept p n front-is text-is is few len body =
    renamed prefix name new kept p n (subst (λ (t : List ℕ). dotted (with_prefix (text_of prefix) (qualifiers t)) ≡ text_of prefix ++ (46 ∷ kept)) text-is (is (text_of prefix)))
    (subst (λ (t : List ℕ). length t + 1 + length kept ≤ 44) front-is few)
    (subst (λ (t : List ℕ). new.len ≡ length (t ++ (46 ∷ kept))) front-is len)
    (subst (λ (t : List ℕ). new.text ≡ (t ++ (46 ∷ kept)) ++ replicate (44 - length (t ++ (46 ∷ kept))) 0) front-is body)

-- ---- a word as a name

pub prefix_lawful : (prefix : Dsn) → IsPrefix prefix → IsDsn prefix
prefix_lawful prefix (q, right, is) = (
  q,
  (
    q ∷ [],
    record {
      each = All-from_recursion IsQualifier (q ∷ []) (right, tt);
      some = omega arith;
      short = omega (arith, qualifier_short q right);
      joins = capital_qualifier q right;
    },
  ),
  is,
)

pub word_prefix : (word : Qualifier) (new : Dsn) (text : List ℕ) → IsOneQualifier word → text ≡ word_of word → new.len ≡ word.len
    → new.text ≡ take 0 (replicate 44 0) ++ (text ++ drop (0 + length text) (replicate 44 0)) → IsPrefix new
word_prefix word new text (spelling, right, is) text-is len body =
    let q : List ℕ = capitals spelling in
    let same : capitals q ≡ q = capital_qualifier q right in
    let count : length q ≡ length spelling = length-map spelling to_ascii_uppercase in
    let read : word_of word ≡ q = ap word_of is ∙ take_at q (replicate (8 - length spelling) 0) (length spelling) count in
    let whole : text ≡ q = text-is ∙ read in
    let short : length q ≤ 8 = qualifier_short q right in
    let put : new.text ≡ text ++ replicate (44 - length text) 0 = body ∙ put_more [] text (replicate 44 0) 44 0 (0 + length text) refl (omega (arith, ap length whole)) refl refl in
    let kept : new.text ≡ capitals q ++ replicate (44 - length q) 0 = put ∙ ap (λ (t : List ℕ). t ++ replicate (44 - length t) 0) whole ∙ ap (λ (t : List ℕ). t ++ replicate (44 - length q) 0) (sym same) in
    (q, right, same_dsn new (dsn_of q) (len ∙ ap (λ (w : Qualifier). w.len) is ∙ sym count) kept)
