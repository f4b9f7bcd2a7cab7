-- Of each part it is told whether a filter takes it.
use Rattle.std.proofs.Common.{◌≡◌, ◌↔◌, ℕ, ◌-◌, ◌^◌, ◌<◌, Bool, true, false, List, [], ◌∷◌, ◌++◌, length, Option, Result, Ok, Err, if◌then◌else◌, IsTrue, refl, sym, ap, subst, ◌∙◌, arith, length-append}
use Rattle.std.specs.Result.{is_err, is_ok}
use Rattle.by_rules.specs.declared.day.Day.{Day}
use Rattle.dump_fmt.specs.declared.piece.DumpHead.{DumpHead}
use Rattle.dump_fmt.specs.Front.{Front, IsLogical, IsOfKind, with_part}
use Rattle.dump_fmt.specs.Parts.{DumpPart, is_whole}
use Rattle.dump_fmt.specs.Text.{IsDumpText}
use Rattle.sysin_lang.specs.declared.command.Filter.{Filter}
use Rattle.dump_read.specs.Reader.{ReaderView}
use Rattle.dump_read.specs.Reading.{HeldSuch}
use Rattle.dump_read.specs.Tape.{TapeSeen}
use Rattle.dump_read.proofs.Ahead.{held_as_well}
use Rattle.dump_read.proofs.Counts.{all_none}
use Rattle.dump_parts.specs.Reading.{IsBetween}
use Rattle.dump_parts.specs.Taken.{AreTaken, Passes, TakesPart, TakesTo}

-- ---- parts are counted

logical_by : (full : Bool) (head : DumpHead) (front : Front) → full ≡ false → IsOfKind full head front → IsLogical head front
logical_by full head front not is = subst (λ (b : Bool). IsOfKind b head front) not is

pub fewer_left : (old new : TapeSeen) (before after : ReaderView) (front : Front) (part : DumpPart) → IsBetween old before front → IsBetween new after (with_part front part)
    → 2 ^ 32 - after.standing.begun < 2 ^ 32 - before.standing.begun
fewer_left old new before after front part is also =
    let here = logical_by after.head.full after.head (with_part front part) also.logical also.reading.is_front.behind in
    omega (
      arith,
      here.few,
      is.reading.stands.begun,
      also.reading.stands.begun,
      ap length (all_none front is.ended),
      ap length (all_none (with_part front part) refl),
      length-append front.parts (part ∷ []),
    )

-- ---- one part more

pub one_more : (filter : Filter) (today : Day) (parts : List DumpPart) (part : DumpPart) (taken : List Bool) (is : Bool) → AreTaken filter today parts taken → (IsTrue is ↔ TakesPart filter today part)
    → AreTaken filter today (parts ++ (part ∷ [])) (taken ++ (is ∷ []))
one_more filter today [] part taken is none told = (is, [], ap (λ (l : List Bool). l ++ (is ∷ [])) none, told, refl)
one_more filter today (first ∷ parts) part taken is (head, more, all, found, rest) told =
    (head, more ++ (is ∷ []), ap (λ (l : List Bool). l ++ (is ∷ [])) all, found, one_more filter today parts part more is rest told)

-- a whole one is taken where it passes
pub whole_taken : (filter : Filter) (today : Day) (part : DumpPart) (is : Bool) → is_whole part ≡ true → (IsTrue is ↔ Passes filter today part.f1 part.tracks) → (IsTrue is ↔ TakesPart filter today part)
whole_taken filter today part is whole found = (λ t. (whole, found.0 t), λ takes. found.1 takes.1)

-- one that was dropped isn't
pub dropped_not_taken : (filter : Filter) (today : Day) (part : DumpPart) (is : Bool) → is_whole part ≡ false → is ≡ false → (IsTrue is ↔ TakesPart filter today part)
dropped_not_taken filter today part is not none =
    (λ t. let f : IsTrue false = subst IsTrue none t in cc, λ takes. let f : IsTrue false = subst IsTrue not takes.0 in cc)

-- ---- the dump

pub full_surveyed : (filter : Filter) (today : Day) (held : Option (List ℕ)) (head other : DumpHead) (front : Front) (taken : List Bool) → other ≡ head → head.full ≡ true
    → HeldSuch held (λ whole. IsDumpText whole other front)
    → HeldSuch held (λ whole. (some : Front) × IsDumpText whole head some × (head.full ≡ false → AreTaken filter today some.parts taken))
full_surveyed filter today held head other front taken same full is =
    held_as_well held (λ whole. IsDumpText whole other front) (λ whole. (some : Front) × IsDumpText whole head some × (head.full ≡ false → AreTaken filter today some.parts taken))
    (λ whole text. (front, subst (λ (h : DumpHead). IsDumpText whole h front) same text, λ not. let wrong : true ≡ false = sym full ∙ not in cc)) is

pub parts_surveyed : (filter : Filter) (today : Day) (held : Option (List ℕ)) (head other : DumpHead) (taken : List Bool) → other ≡ head → TakesTo filter today held other taken
    → HeldSuch held (λ whole. (some : Front) × IsDumpText whole head some × (head.full ≡ false → AreTaken filter today some.parts taken))
parts_surveyed filter today held head other taken same is =
    held_as_well held (λ whole. (some : Front) × IsDumpText whole other some × AreTaken filter today some.parts taken)
    (λ whole. (some : Front) × IsDumpText whole head some × (head.full ≡ false → AreTaken filter today some.parts taken))
    (λ whole (some, text, told). (some, subst (λ (h : DumpHead). IsDumpText whole h some) same text, λ not. told)) is

-- ---- what is kept between two parts

pub pushed : {X E : Type 0} (answer : Result X E) (before after : List Bool) (is : Bool) → after ≡ (if is_ok answer then before ++ (is ∷ []) else before) → is_err answer ≡ false → after ≡ before ++ (is ∷ [])
pushed (Ok x) before after is all none = all
pushed (Err e) before after is all none = cc

-- of each part that ended it is told, also of the next
pub told_next : (filter : Filter) (today : Day) (tape : TapeSeen) (reader : ReaderView) (front : Front) (part : DumpPart) (before after : List Bool) (is : Bool) → AreTaken filter today front.parts before
    → after ≡ before ++ (is ∷ []) → (IsTrue is ↔ TakesPart filter today part) → IsBetween tape reader (with_part front part)
    → (some : Front) × IsBetween tape reader some × AreTaken filter today some.parts after
told_next filter today tape reader front part before after is told all takes between =
    (with_part front part, between, subst (AreTaken filter today (front.parts ++ (part ∷ []))) (sym all) (one_more filter today front.parts part before is told takes))
