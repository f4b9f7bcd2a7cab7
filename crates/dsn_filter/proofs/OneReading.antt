-- One reading, one place and one new name.
use Rattle.std.proofs.Common.{◌≡◌, ℕ, ◌+◌, ◌-◌, ◌<◌, ◌≤◌, inl, inr, List, [], ◌∷◌, ◌++◌, length, take, drop, replicate, sym, ap, subst, ◌∙◌, append_assoc, arith}
use Rattle.std.specs.Char.{to_ascii_uppercase}
use Rattle.std.proofs.lemmas.Bool.{cases_order}
use Rattle.std.proofs.lemmas.List.{take-append-drop, take-take, length-map}
use Rattle.dsn_filter.specs.declared.dsn.Dsn.{Dsn}
use Rattle.dsn_filter.specs.declared.rename.Rename.{Rename}
use Rattle.dsn_filter.specs.declared.rename.Rename.TheVariants.{Keep, Prefix, Listed}
use Rattle.dsn_filter.specs.Text.{capitals, IsBegun, IsFirstWrong}
use Rattle.dsn_filter.specs.Dsn.{text_of, dsn_of, IsDsn}
use Rattle.dsn_filter.specs.Rename.{IsListed, Renames}
use Rattle.dsn_filter.proofs.Named.{text_is}
use Rattle.dsn_filter.proofs.Renamed.{same_dsn}

-- what is begun is so at each place before
begun_before : (IsRight : List ℕ → Type 0) (text : List ℕ) (place other : ℕ) → place ≤ other → IsBegun IsRight (take other text) → IsBegun IsRight (take place text)
begun_before IsRight text place other le (more, right) =
    let parted : take place text ++ (drop place (take other text) ++ more) ≡ take other text ++ more =
    ap (λ (t : List ℕ). t ++ (drop place (take other text) ++ more)) (sym (take-take place other text le))
    ∙ sym (append_assoc (take place (take other text)) (drop place (take other text)) more)
    ∙ ap (λ (t : List ℕ). t ++ more) (take-append-drop place (take other text)) in
    (drop place (take other text) ++ more, subst IsRight (sym parted) right)

not_before : (IsRight : List ℕ → Type 0) (text : List ℕ) (place other : ℕ) → IsFirstWrong IsRight text place → IsFirstWrong IsRight text other → place < other → ⊥
not_before IsRight text place other h k lt = h.ends (omega (arith, k.within)) (begun_before IsRight text (place + 1) other (omega arith) k.begun)

pub one_place : (IsRight : List ℕ → Type 0) (text : List ℕ) (place other : ℕ) → IsFirstWrong IsRight text place → IsFirstWrong IsRight text other → place ≡ other
one_place IsRight text place other h k = elim (cases_order place other) [
  | inl e ↦ e
  | inr (inl lt) ↦ absurd (not_before IsRight text place other h k lt)
  | inr (inr gt) ↦ absurd (not_before IsRight text other place k h gt)
]

pub one_name : (left right : Dsn) → IsDsn left → IsDsn right → text_of left ≡ text_of right → left ≡ right
one_name left right (s, h, is) (t, k, at) e =
    let same : capitals s ≡ capitals t = sym (text_is left s is) ∙ e ∙ text_is right t at in
    let len : length s ≡ length t = sym (length-map s to_ascii_uppercase) ∙ ap length same ∙ length-map t to_ascii_uppercase in
    let text : (dsn_of s).text ≡ (dsn_of t).text = ap (λ (u : List ℕ). u ++ replicate (44 - length s) 0) same ∙ ap (λ (n : ℕ). capitals t ++ replicate (44 - n) 0) len in
    is ∙ same_dsn (dsn_of s) (dsn_of t) len text ∙ sym at

one_listed : (pairs : List (Dsn × Dsn)) (name a b : Dsn) → IsListed pairs name a → IsListed pairs name b → a ≡ b
one_listed [] name a b h k = h ∙ sym k
one_listed (pair ∷ pairs) name a b (inl h) (inl k) = h.1 ∙ sym k.1
one_listed (pair ∷ pairs) name a b (inl h) (inr k) = absurd (k.0 h.0)
one_listed (pair ∷ pairs) name a b (inr h) (inl k) = absurd (h.0 k.0)
one_listed (pair ∷ pairs) name a b (inr h) (inr k) = one_listed pairs name a b h.1 k.1

pub one_rename : (rename : Rename) (name : Dsn) (left right : List ℕ) → Renames rename name left → Renames rename name right → left ≡ right
one_rename Keep name left right h k = h ∙ sym k
one_rename (Prefix p) name left right h k = h ∙ sym k
one_rename (Listed pairs) name left right (a, h, is) (b, k, at) = is ∙ ap text_of (one_listed pairs name a b h k) ∙ sym at
