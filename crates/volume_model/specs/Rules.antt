-- The rules of a VTOC by their numbers and in words.
use Rattle.std.specs.Prelude.{ℕ, ◌==◌, List, [], ◌∷◌, find, Option, codes}
use Rattle.volume_model.specs.declared.rule.VtocRule.{VtocRule}
use Rattle.volume_model.specs.declared.rule.VtocRule.TheVariants as rules

abbrev pub number_of : VtocRule → ℕ
number_of rules.NoFormat4 = 1
number_of rules.Geometry = 2
number_of rules.VtocExtent = 3
number_of rules.Track = 4
number_of rules.Dscb = 5
number_of rules.Name = 6
number_of rules.Pointer = 7
number_of rules.Range = 8
number_of rules.Overlap = 9
number_of rules.Free = 10

-- all of them in their order
abbrev pub all_rules : List VtocRule
all_rules =
    rules.NoFormat4 ∷ rules.Geometry ∷ rules.VtocExtent ∷ rules.Track ∷ rules.Dscb ∷ rules.Name ∷ rules.Pointer ∷ rules.Range ∷ rules.Overlap ∷ rules.Free ∷ []

-- the rule with a number, where there is one
abbrev pub rule_of : ℕ → Option VtocRule
rule_of number = find (λ rule. number_of rule == number) all_rules

abbrev pub words_of : VtocRule → List ℕ
words_of rules.NoFormat4 = codes "NO FORMAT 4"
words_of rules.Geometry = codes "GEOMETRY"
words_of rules.VtocExtent = codes "VTOC EXTENT"
words_of rules.Track = codes "TRACK"
words_of rules.Dscb = codes "DSCB"
words_of rules.Name = codes "NAME"
words_of rules.Pointer = codes "POINTER"
words_of rules.Range = codes "RANGE"
words_of rules.Overlap = codes "OVERLAP"
words_of rules.Free = codes "FREE"
