-- What words ask for, as what a run may do.
use Rattle.std.proofs.Common.{◌≡◌, inl, inr, ℕ, ◌+◌, ◌<◌, ◌≤◌, List, [], ◌∷◌, length, get_or, All, Bool, true, false, cond, ◌&&◌, refl, sym, ap, subst, ◌∙◌, arith}
use Rattle.std.specs.List.{AllZip}
use Rattle.std.proofs.lemmas.List.{get_or-map, length-map}
use Rattle.std.proofs.lemmas.List.Elements.{All-cons, All-nil}
use Rattle.std.specs.Prelude.{nat_le, Option, Some, None}
use Rattle.std.proofs.lemmas.Bool.{leb-true}
use Rattle.by_rules.specs.declared.day.Day.{Day}
use Rattle.by_rules.specs.Words.{is_decimal, decimal, number_up_to}
use Rattle.dasd_pool.specs.Disk.{Shape}
use Rattle.dasd_pool.specs.declared.pool.Pool.{Ghosts}
use Rattle.dd_names.specs.declared.dd.DdName.{DdName}
use Rattle.vol_label.specs.declared.serial.Serial.{Serial}
use Rattle.vol_label.specs.Serial.{IsSerialName, IsSerial}
use Rattle.vol_label.specs.Serial as serials
use Rattle.redo_core.specs.Opening.{AreNames}
use Rattle.run_words.specs.declared.given.Given.{Given as GivenOption}
use Rattle.run_words.specs.declared.run.Run.{Run}
use Rattle.run_words.specs.declared.run.Run.TheVariants.{Jobs, Format, Make}
use Rattle.run_words.specs.Words.{Spells, IsRun, IsUnit, AreUnits}
use Rattle.run_words.proofs.OneRun as runs
use Rattle.run_lines.specs.declared.ending.RunEnd.TheVariants as ends
use Rattle.dump_fmt.specs.Outs.{FilesSeen}
use Rattle.job_script.specs.Ends.{SinkSeen, After}
use Rattle.adr_top.specs.Asked.{AskFor, Agrees, HasUnits, serials_of}
use Rattle.adr_top.specs.Ends.{given, IsAsked, EndsRun}
use Rattle.adr_top.specs.Parts.{IsLawful, IsRefused, EndsAsked}
use Rattle.adr_top.specs.Texts.{SourceSeen, IsUncalled}
use Rattle.ckd_image.proofs.Bools.{and_second}

-- ---- the serials that words name

serial_of : (name text : List ℕ) → IsSerialName name → serials.Spells name text → IsSerial text
serial_of name text named spelled = (
  length name,
  record {
    six = spelled.six;
    some = named.some;
    few = named.few;
    characters = λ k less. (get_or name k 0, spelled.characters k less, named.characters k 0 less);
    blanks = spelled.blanks;
  },
)

abbrev HasSerial : Serial → Type 0
HasSerial serial = IsSerial serial.text

all_serials : (values : List (List ℕ)) (volumes : List (Serial × List ℕ)) → AllZip IsUnit values volumes → All HasSerial (serials_of volumes)
all_serials [] [] zip = All-nil HasSerial
all_serials [] (volume ∷ volumes) zip = absurd zip
all_serials (value ∷ values) [] zip = absurd zip
all_serials (value ∷ values) (volume ∷ volumes) zip =
    All-cons HasSerial volume.0 (serials_of volumes) (serial_of zip.0.0 volume.0.text zip.0.2 zip.0.3) (all_serials values volumes zip.1)

serial_in : Serial × List ℕ → Serial
serial_in volume = volume.0

names_of : (shape : Shape) (values : List (List ℕ)) (volumes : List (Serial × List ℕ)) → AreUnits values volumes → HasUnits shape.units (length volumes) → AreNames shape (serials_of volumes)
names_of shape values volumes are units =
    let long : length (serials_of volumes) ≡ length volumes = length-map volumes (λ volume. volume.0) in
    record {
      some = subst (λ (n : ℕ). 1 ≤ n) (sym long) are.some;
      few = subst (λ (n : ℕ). n ≤ 64) (sym long) are.few;
      serials = all_serials values volumes are.named;
      apart = λ i j d before within same.
          let less : j < length volumes = subst (λ (n : ℕ). j < n) long within in
          are.apart i j (d, []) before less
          (sym (get_or-map (λ volume. volume.0) volumes i (d, []) d (omega (arith, before, less))) ∙ same ∙ get_or-map (λ volume. volume.0) volumes j (d, []) d less);
      each = long ∙ omega (arith, units);
    }

-- a number that is read is no greater than it may be
abbrev number_in : Option ℕ → ℕ
number_in None = 0
number_in (Some n) = 1 + n

most_if : (b : Bool) (m n limit : ℕ) → (b ≡ true → m ≤ limit) → cond b (Some m) None ≡ Some n → n ≤ limit
most_if true m n limit less is = let small = less refl in let same : 1 + m ≡ 1 + n = ap (λ (o : Option ℕ). number_in o) is in omega (arith, same, small)
most_if false m n limit less is = let same : 0 ≡ 1 + n = ap (λ (o : Option ℕ). number_in o) is in absurd (omega (arith, same))

number_most : (limit n : ℕ) (word : List ℕ) → number_up_to limit word ≡ Some n → n ≤ limit
number_most limit n word is =
    most_if (is_decimal word && nat_le (decimal word) limit) (decimal word) n limit
    (λ both. leb-true (decimal word) limit (and_second (is_decimal word) (nat_le (decimal word) limit) both)) is

pub asked_lawful : (shape : Shape) (options : List GivenOption) (run : Run) (outs ins : List DdName) → IsRun options run → Agrees run shape.units outs ins → IsLawful shape run
asked_lawful shape options (Jobs volumes journal sysin path out_words in_words) outs ins is agrees = names_of shape _ volumes is.units_are agrees.0
asked_lawful shape options (Format volumes journal room) outs ins is agrees =
    (names_of shape _ volumes is.units_are agrees.0, is.room_is.least_is, number_most 8191 room is.room_is.digits is.room_is.spelled)
asked_lawful shape options (Make number) outs ins is agrees = tt

-- ---- what the words ask for is one run

pub not_asked : (words : List (List ℕ)) (units : ℕ) (outs ins : List DdName) (options : List GivenOption) (asked : Run) → Spells words options → IsRun options asked
    → ¬ Agrees asked units outs ins → (run : Run) → ¬ (AskFor words run × Agrees run units outs ins)
not_asked words units outs ins options asked spells is differs run other =
    differs (subst (λ (r : Run). Agrees r units outs ins) (runs.words_have_one_run words other.0.0 options run asked other.0.1 other.0.2 spells is) other.1)

-- a pool's number of units under another name
pub agrees_at : (asked : Run) {n m : ℕ} (outs ins : List DdName) → n ≡ m → Agrees asked n outs ins → Agrees asked m outs ins
agrees_at asked {n} {m} outs ins same agrees = subst (λ (k : ℕ). Agrees asked k outs ins) same agrees

-- ---- how what is asked ends

module _ {P : Type 0} (pools : Ghosts P) (words : List (List ℕ)) (units : ℕ) (outs ins : List DdName) (files : FilesSeen) (today : Day) (sysin held : SourceSeen) (out : SinkSeen) (pool : P) (left : After P) where
  pub refused_words : ((run : Run) → ¬ IsAsked (given words units outs ins files today sysin held out) run) → IsUncalled sysin → IsUncalled held → IsRefused out pool ends.Words left
      → EndsRun pools (given words units outs ins files today sysin held out) pool left
  refused_words none no_sysin no_held refused =
      inl (record { why = inl ((refused.end_is, none), record { sysin = no_sysin; held = no_held }); did = refused.did; same = refused.same })

  pub refused_memory : IsUncalled sysin → IsUncalled held → IsRefused out pool ends.Memory left → EndsRun pools (given words units outs ins files today sysin held out) pool left
  refused_memory no_sysin no_held refused =
      inl (record { why = inr (inr (inl (refused.end_is, record { sysin = no_sysin; held = no_held }))); did = refused.did; same = refused.same })

  pub ends_asked : (asked : Run) → IsAsked (given words units outs ins files today sysin held out) asked → EndsAsked pools files asked held sysin out pool today left
      → EndsRun pools (given words units outs ins files today sysin held out) pool left
  ends_asked (Jobs volumes journal text path out_words in_words) is end = elim (end.1) [
    | inl stops ↦ inl (record {
      why = inr (inr (inr (volumes, path, (journal, text, out_words, in_words, is), stops.0, end.0)));
      did = stops.1.did;
      same = stops.1.same;
    })
    | inr ready ↦ inr (inr (record {
      volumes = volumes;
      table = ready.1;
      plan = ready.2;
      ready = record { path = path; texts = ready.0; asked = (journal, text, out_words, in_words, is); ready = ready.3; takes = end.0 };
      run = ready.4.run;
      how = ready.4.how;
    }))
  ]
  ends_asked (Format volumes journal room) is end = elim (end.1) [
    | inl formats ↦ inr (inl (record { volumes = volumes; room = room; asked = (journal, is); uncalled = record { sysin = end.0.1; held = end.0.0 }; formats = formats }))
    | inr refused ↦ refused_memory end.0.1 end.0.0 refused
  ]
  ends_asked (Make number) is end =
      inl (record { why = inr (inl ((end.1.end_is, (number, is)), record { sysin = end.0.1; held = end.0.0 })); did = end.1.did; same = end.1.same })
