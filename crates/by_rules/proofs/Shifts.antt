-- Dates from today on lie within their limits.
use Rattle.std.proofs.Common.{◌≡◌, inl, inr, ℕ, ◌≤◌, List, [], ◌∷◌, refl, sym, subst, Bool, true, false, nat_le, arith, Option, Some, None, ℤ, pos, neg_ℤ, All}
use Rattle.std.specs.Prelude.{◌&&◌, ◌==◌, if◌then◌else◌}
use Rattle.std.specs.Option.{option_map}
use Rattle.std.specs.List.{AllByRecursion}
use Rattle.std.proofs.lemmas.Bool.Decides.{nat_tests}
use Rattle.std.proofs.lemmas.List.Elements.{All-from_recursion}
use Rattle.jiff_core.proofs.SignedLemmas.{signed_arith}
use Rattle.by_rules.specs.declared.criterion.Key.{Key}
use Rattle.by_rules.specs.declared.criterion.Key.TheVariants as keys
use Rattle.by_rules.specs.declared.criterion.Op.{Op}
use Rattle.by_rules.specs.declared.criterion.When.TheVariants as dates
use Rattle.by_rules.specs.declared.criterion.Value.{Value}
use Rattle.by_rules.specs.declared.criterion.Value.TheVariants as values
use Rattle.by_rules.specs.declared.criterion.Criterion.{Criterion}
use Rattle.by_rules.specs.Day.{IsShift}
use Rattle.by_rules.specs.Criterion.{IsSoundValue, IsSound}
use Rattle.by_rules.specs.Token.{Symbol}
use Rattle.by_rules.specs.Words.{decimal, is_decimal, number_up_to, shift_of, value_of, organization_of, date_of, flag_of, allocation_of}
use Rattle.by_rules.specs.Grammar.{IsValue, IsMembers, IsOperand, IsSequence, Spell}

within : (b : Bool) (number limit found : ℕ) → (if b && nat_le number limit then Some number else None) ≡ Some found → found ≤ limit
within true number limit found e = grind (arith, nat_tests)
within false number limit found e = cc

number_within : (limit : ℕ) (word : List ℕ) (found : ℕ) → number_up_to limit word ≡ Some found → found ≤ limit
number_within limit word found e = within (is_decimal word) (decimal word) limit found e

negative : (found : Option ℕ) (days : ℤ) → ((n : ℕ) → found ≡ Some n → n ≤ 36500) → option_map (λ (n : ℕ). neg_ℤ (pos n)) found ≡ Some days → IsShift days
negative None days bound e = cc
negative (Some n) days bound e =
    let same : neg_ℤ (pos n) ≡ days = cc in
    let least = bound n refl in
    subst IsShift same (omega (arith, signed_arith), omega (arith, signed_arith))

positive : (found : Option ℕ) (days : ℤ) → ((n : ℕ) → found ≡ Some n → n ≤ 36500) → option_map (λ (n : ℕ). pos n) found ≡ Some days → IsShift days
positive None days bound e = cc
positive (Some n) days bound e =
    let same : pos n ≡ days = cc in
    let most = bound n refl in
    subst IsShift same (omega (arith, signed_arith), omega (arith, signed_arith))

shift_by : (sign : Bool) (first : ℕ) (rest : List ℕ) (days : ℤ)
    → (if sign then option_map (λ (n : ℕ). neg_ℤ (pos n)) (number_up_to 36500 rest) else option_map (λ (n : ℕ). pos n) (number_up_to 36500 (first ∷ rest))) ≡ Some days → IsShift days
shift_by true first rest days e = negative (number_up_to 36500 rest) days (number_within 36500 rest) e
shift_by false first rest days e = positive (number_up_to 36500 (first ∷ rest)) days (number_within 36500 (first ∷ rest)) e

shift_sound : (word : List ℕ) (days : ℤ) → shift_of word ≡ Some days → IsShift days
shift_sound [] days e = cc
shift_sound (first ∷ rest) days e = shift_by (first == 45) first rest days e

mapped : {A : Type 0} (f : A → Value) (found : Option A) (value : Value) → ((a : A) → IsSoundValue (f a)) → option_map f found ≡ Some value → IsSoundValue value
mapped f None value each e = cc
mapped f (Some a) value each e = let same : f a ≡ value = cc in subst IsSoundValue same (each a)

value_sound : (key : Key) (word : List ℕ) (value : Value) → value_of key word ≡ Some value → IsSoundValue value
value_sound keys.Organization word value e = mapped values.Organization (organization_of word) value (λ a. tt) e
value_sound keys.Created word value e = mapped (λ day. values.Date (dates.On day)) (date_of word) value (λ a. tt) e
value_sound keys.Expires word value e = mapped (λ day. values.Date (dates.On day)) (date_of word) value (λ a. tt) e
value_sound keys.Referred word value e = mapped (λ day. values.Date (dates.On day)) (date_of word) value (λ a. tt) e
value_sound keys.Extents word value e = mapped values.Number (number_up_to 65535 word) value (λ a. tt) e
value_sound keys.Tracks word value e = mapped values.Number (number_up_to 65535 word) value (λ a. tt) e
value_sound keys.Changed word value e = mapped values.Flag (flag_of word) value (λ a. tt) e
value_sound keys.Allocation word value e = mapped values.Allocation (allocation_of word) value (λ a. tt) e
value_sound keys.Multivolume word value e = mapped values.Flag (flag_of word) value (λ a. tt) e

is_sound : (key : Key) (value : Value) (tokens : List Symbol) → IsValue key value tokens → IsSoundValue value
is_sound key value tokens (inl w) = value_sound key w.word value w.says
is_sound key value tokens (inr (d, inl t)) = subst IsSoundValue (sym t.says) (omega (arith, signed_arith), omega (arith, signed_arith))
is_sound key value tokens (inr (d, inr t)) = subst IsSoundValue (sym t.date) (shift_sound t.word t.days t.says)

members_sound : (key : Key) (list : List Value) (tokens : List Symbol) → IsMembers key list tokens → AllByRecursion IsSoundValue list
members_sound key [] tokens m = absurd m
members_sound key (value ∷ []) tokens m = (is_sound key value tokens m, tt)
members_sound key (value ∷ more ∷ list) tokens m = (is_sound key value m.0 m.3, members_sound key (more ∷ list) m.1 m.4)

operand_sound : (key : Key) (op : Op) (list : List Value) (tokens : List Symbol) → IsOperand key op list tokens → All IsSoundValue list
operand_sound key op list tokens (inl a) =
    let P : List Value → Type 0 = λ l. All IsSoundValue l in
    subst P (sym a.one) (All-from_recursion IsSoundValue (a.value ∷ []) (is_sound key a.value tokens a.text, tt))
operand_sound key op list tokens (inr l) = All-from_recursion IsSoundValue list (members_sound key list l.members l.each)

sequence_sound : (criteria : List Criterion) (tokens : List Symbol) → IsSequence criteria tokens → AllByRecursion IsSound criteria
sequence_sound [] tokens s = absurd s
sequence_sound (criterion ∷ []) tokens s = (operand_sound criterion.key criterion.op criterion.values s.operand s.compared, tt)
sequence_sound (criterion ∷ more ∷ criteria) tokens s =
    (operand_sound criterion.key criterion.op criterion.values s.3.operand s.3.compared, sequence_sound (more ∷ criteria) s.1 s.4)

-- what tokens spell has dates within their limits
pub spelled_sound : (tokens : List Symbol) (criteria : List Criterion) → Spell tokens criteria → All IsSound criteria
spelled_sound tokens criteria s = All-from_recursion IsSound criteria (sequence_sound criteria tokens s.sequence)
