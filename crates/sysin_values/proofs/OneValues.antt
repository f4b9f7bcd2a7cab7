-- Tokens spell one value at most.
use Rattle.std.proofs.Common.{refl, sym, ap, ◌∙◌}
use Rattle.dsn_filter.specs.declared.rename.Rename.TheVariants as renames
use Rattle.by_rules.proofs.Reader.{spelled_is_read}
use Rattle.sysin_values.specs.Values.{IsWordOf, IsPair, IsPatterns, IsOutputs, IsPairs, IsRename, IsCriteria, SaysPattern, SaysDdName, SaysPrefix}
use Rattle.sysin_values.specs.Exact.{OneValue}
use Rattle.sysin_values.proofs.Lists.{one_list}
use Rattle.sysin_values.proofs.WordLists.{closed_word, one_word}
use Rattle.sysin_values.proofs.PairLists.{closed_pair, one_pair, first_pair}
use Rattle.sysin_values.proofs.Said.{one_pattern, one_dd_name, one_prefix}
use Rattle.sysin_values.proofs.CriteriaLists.{given}

pub one_patterns : OneValue IsPatterns
one_patterns x y text a b = one_list (IsWordOf SaysPattern) (closed_word SaysPattern) (one_word SaysPattern one_pattern) x y text a.0 b.0

pub one_outputs : OneValue IsOutputs
one_outputs x y text a b = one_list (IsWordOf SaysDdName) (closed_word SaysDdName) (one_word SaysDdName one_dd_name) x y text a.0 b.0

pub one_pairs : OneValue IsPairs
one_pairs x y text a b = one_list IsPair closed_pair one_pair x y text a.0 b.0

pub one_rename : OneValue IsRename
one_rename renames.Keep y text a b = absurd a
one_rename (renames.Prefix x) renames.Keep text a b = absurd b
one_rename (renames.Prefix x) (renames.Prefix y) text a b = ap renames.Prefix (one_word SaysPrefix one_prefix x y text a b)
one_rename (renames.Prefix x) (renames.Listed list) text (word, e, says) (l, few) = let f = first_pair list text l in let g = f.whole in cc
one_rename (renames.Listed list) renames.Keep text a b = absurd b
one_rename (renames.Listed list) (renames.Prefix y) text (l, few) (word, e, says) = let f = first_pair list text l in let g = f.whole in cc
one_rename (renames.Listed list) (renames.Listed other) text a b = ap renames.Listed (one_pairs list other text a b)

pub one_criteria : OneValue IsCriteria
one_criteria x y text a b =
    let s = spelled_is_read _ x (record { sequence = a.0; few = a.1 refl }) in
    let g = given s.0 text y s.1 b in
    sym s.3 ∙ g.1
