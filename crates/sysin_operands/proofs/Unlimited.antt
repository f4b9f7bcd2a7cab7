-- A comma or a last bracket that is wrong in brackets is so even where lists have no limit.
use Rattle.std.proofs.Common.{◌≡◌, ◌⊎◌, inl, inr, List, [], ◌∷◌, ◌++◌, refl, ap, true, false, None}
use Rattle.std.specs.Option.{option_and_then}
use Rattle.by_rules.specs.Token as rules
use Rattle.by_rules.specs.declared.state.State.{State}
use Rattle.by_rules.specs.Reading.{step_of, after_step, next}
use Rattle.by_rules.proofs.Reader.{spelled_is_read}
use Rattle.dsn_filter.specs.declared.rename.Rename.{Rename}
use Rattle.dsn_filter.specs.declared.rename.Rename.TheVariants as renames
use Rattle.sysin_text.specs.declared.token.Token.{Token}
use Rattle.sysin_text.specs.declared.token.Token.TheVariants.{Comma, Close}
use Rattle.sysin_forms.specs.declared.operand.Operand.{Operand}
use Rattle.sysin_values.specs.declared.fault.ValueFault.{ValueFault}
use Rattle.sysin_values.specs.declared.fault.ValueFault.TheVariants as faults
use Rattle.sysin_values.specs.declared.place.PairPlace.TheVariants as pairs
use Rattle.sysin_values.specs.declared.place.WaitPlace.TheVariants as waits
use Rattle.sysin_values.specs.Values.{rule_of, IsRename, IsCriteria}
use Rattle.sysin_values.specs.Pairs.{pair_start}
use Rattle.sysin_values.specs.Names.{NameProgress, NamesStop, NamesRead}
use Rattle.sysin_values.specs.Begun.{CanGoOn}
use Rattle.sysin_values.specs.Exact.{IsWhy}
use Rattle.sysin_values.proofs.LongCriteria as long
use Rattle.sysin_values.proofs.Waits.{waiting_is}
use Rattle.sysin_operands.specs.declared.bracket.Bracket.{Bracket}
use Rattle.sysin_operands.specs.declared.bracket.Bracket.TheVariants as brackets
use Rattle.sysin_operands.specs.declared.content.Content.{Content}
use Rattle.sysin_operands.specs.declared.content.Content.TheVariants as contents
use Rattle.sysin_operands.specs.Bracket.{IsContent}
use Rattle.sysin_operands.specs.Content.{ContentStops, ContentReads}
use Rattle.sysin_operands.proofs.Wrapping.{goes_in}
use Rattle.sysin_operands.proofs.Contents.{tells_why, by_made}

abbrev pub IsMark : Token → Type 0
IsMark token = (token ≡ Comma) ⊎ (token ≡ Close)

no_mark : (token : Token) → IsMark token → ¬ (rule_of token ≡ rules.Open)
no_mark token (inl e) o = let s : rule_of token ≡ rules.Comma = ap rule_of e in cc
no_mark token (inr e) o = let s : rule_of token ≡ rules.Close = ap rule_of e in cc

names_count : (m : NameProgress) (token : Token) → IsMark token → NamesStop m token faults.Count → ⊥
names_count m token mark (inl (name, prefix, wrong)) = cc
names_count m token mark (inr (inl (prefix, wrong, none))) = cc
names_count m token (inl e) (inr (inr (prefix, later, (place, few, open')))) = cc
names_count m token (inr e) (inr (inr (prefix, later, (place, few, open')))) = cc

-- neither is too much for a list
no_count : (content : Content) (token : Token) → IsMark token → ContentStops content token faults.Count → ⊥
no_count (contents.Single single) token mark stop = stop
no_count (contents.Said operand) token mark stop = cc
no_count (contents.Include old) token (inl e) (wants, few, word, sign) = cc
no_count (contents.Include old) token (inr e) (wants, few, word, sign) = cc
no_count (contents.Exclude old) token (inl e) (wants, few, word, sign) = cc
no_count (contents.Exclude old) token (inr e) (wants, few, word, sign) = cc
no_count (contents.By old) token (inl e) (none, full, sign) = cc
no_count (contents.By old) token (inr e) (none, full, sign) = cc
no_count (contents.Outputs old) token (inl e) (wants, few, word, sign) = cc
no_count (contents.Outputs old) token (inr e) (wants, few, word, sign) = cc
no_count (contents.Rename old) token mark stop = names_count old token mark stop
no_count (contents.Wait old) token mark stop = stop

-- a refusal that tells why
by_why : (bracket : Bracket) (content : Content) (text : List Token) (token : Token) (fault : ValueFault) → IsMark token → ContentStops content token fault → ¬ (fault ≡ faults.NoMemory)
    → IsWhy (IsContent bracket) text token fault → ¬ CanGoOn (IsContent bracket) false (text ++ token ∷ [])
by_why bracket content text token faults.Count mark stop real why g = no_count content token mark stop
by_why bracket content text token faults.Value (inl e) stop real (m, word, sign) g = cc
by_why bracket content text token faults.Value (inr e) stop real (m, word, sign) g = cc
by_why bracket content text token faults.Word mark stop real why g = why (inr g)
by_why bracket content text token faults.NoMemory mark stop real why g = real refl

by_criteria : (content : Content) (text : List Token) (token : Token) (fault : ValueFault) → IsMark token → ContentReads brackets.By content text → ContentStops content token fault → ¬ (fault ≡ faults.NoMemory)
    → ¬ CanGoOn (IsContent brackets.By) false (text ++ token ∷ [])
by_criteria (contents.Single other) text token fault mark r stop real g = r
by_criteria (contents.Said operand) text token fault mark r stop real g = r
by_criteria (contents.Include old) text token fault mark r stop real g = r
by_criteria (contents.Exclude old) text token fault mark r stop real g = r
by_criteria (contents.By old) text token fault mark r stop real g =
    long.stopped old text token fault r stop real (no_mark token mark) (goes_in IsCriteria (IsContent brackets.By) by_made false (text ++ token ∷ []) g)
by_criteria (contents.Outputs old) text token fault mark r stop real g = r
by_criteria (contents.Rename old) text token fault mark r stop real g = r
by_criteria (contents.Wait old) text token fault mark r stop real g = r

pub stopped : (bracket : Bracket) (content : Content) (text : List Token) (token : Token) (fault : ValueFault) → IsMark token → ContentReads bracket content text → ContentStops content token fault
    → ¬ (fault ≡ faults.NoMemory) → ¬ CanGoOn (IsContent bracket) false (text ++ token ∷ [])
stopped (brackets.Single single) content text token fault mark r stop real =
    by_why (brackets.Single single) content text token fault mark stop real (tells_why (brackets.Single single) (λ e. cc) content text token fault r stop)
stopped brackets.Include content text token fault mark r stop real = by_why brackets.Include content text token fault mark stop real (tells_why brackets.Include (λ e. cc) content text token fault r stop)
stopped brackets.Exclude content text token fault mark r stop real = by_why brackets.Exclude content text token fault mark stop real (tells_why brackets.Exclude (λ e. cc) content text token fault r stop)
stopped brackets.By content text token fault mark r stop real = by_criteria content text token fault mark r stop real
stopped brackets.Outputs content text token fault mark r stop real = by_why brackets.Outputs content text token fault mark stop real (tells_why brackets.Outputs (λ e. cc) content text token fault r stop)
stopped brackets.Rename content text token fault mark r stop real = by_why brackets.Rename content text token fault mark stop real (tells_why brackets.Rename (λ e. cc) content text token fault r stop)
stopped brackets.Wait content text token fault mark r stop real = by_why brackets.Wait content text token fault mark stop real (tells_why brackets.Wait (λ e. cc) content text token fault r stop)

-- what is spelled is read, and a last bracket is none of its tokens
pub record IsWhole (bracket : Bracket) (text : List Token) : Type 0 where
  pub content : Content
  pub reads : ContentReads bracket content text
  pub stops : ContentStops content Close faults.Word

rename_whole : (rename : Rename) (text : List Token) → IsRename true rename text → (m : NameProgress) × NamesRead m text × NamesStop m Close faults.Word
rename_whole renames.Keep text s = absurd s
rename_whole (renames.Prefix name) text (word, e, says) = (
  record { prefix = _; pairs = pair_start },
  inl (name, refl, record { word = word; text_is = e; says = says; first = (refl, refl) }),
  inl (name, refl, refl),
)
rename_whole (renames.Listed list) text (l, few) = (
  record { prefix = None; pairs = record { list = list; place = pairs.Behind } },
  inr (refl, (few refl, inl (refl, l))),
  inr (inr (refl, (λ first. let e = first.0.1 in cc), (λ e. cc))),
)

pub whole : (bracket : Bracket) (operand : Operand) (text : List Token) → IsContent bracket true operand text → IsWhole bracket text
whole (brackets.Single single) operand text s = record { content = contents.Said operand; reads = s; stops = refl }
whole brackets.Include operand text (list, (l, few), e) =
    record { content = contents.Include (record { list = list; wants = false }); reads = (few refl, inl (refl, l)); stops = inr (refl, λ e. cc) }
whole brackets.Exclude operand text (list, (l, few), e) =
    record { content = contents.Exclude (record { list = list; wants = false }); reads = (few refl, inl (refl, l)); stops = inr (refl, λ e. cc) }
whole brackets.By operand text (list, (sequence, few), e) =
    let s = spelled_is_read _ list (record { sequence = sequence; few = few refl }) in
    let none : next s.0 rules.Close ≡ None = ap (λ (state : State). option_and_then (after_step s.0) (step_of state rules.Close)) s.2 in
    record { content = contents.By s.0; reads = s.1; stops = (none, (λ w. let e = w.1 in cc), (λ e. cc)) }
whole brackets.Outputs operand text (list, (l, few), e) =
    record { content = contents.Outputs (record { list = list; wants = false }); reads = (few refl, inl (refl, l)); stops = inr (refl, λ e. cc) }
whole brackets.Rename operand text (rename, s, e) = let w = rename_whole rename text s in record { content = contents.Rename w.0; reads = w.1; stops = w.2 }
whole brackets.Wait operand text (s, e) = record { content = contents.Wait waits.Ended; reads = waiting_is text s; stops = λ none. none }

pub ends : (bracket : Bracket) (operand : Operand) (text : List Token) → IsContent bracket true operand text → ¬ CanGoOn (IsContent bracket) false (text ++ Close ∷ [])
ends bracket operand text s = let w = whole bracket operand text s in stopped bracket w.content text Close faults.Word (inr refl) w.reads w.stops (λ e. cc)
