-- Options that give the same values to each name.
use Rattle.std.proofs.Common.{◌≡◌, ℕ, suc, ◌+◌, Bool, true, false, List, [], ◌∷◌, ◌++◌, ◌<◌, length, get_or, take, flat_map, All, Some, None, sym, ap, ap₂, subst, ◌∙◌, refl, arith, append-nil}
use Rattle.std.specs.Prelude.{if◌then◌else◌}
use Rattle.std.specs.List.{cons_option}
use Rattle.std.proofs.lemmas.List.Elements.{All-nil, All-cons, All-head, All-tail, filter_map-append}
use Rattle.std.proofs.lemmas.List.{take_more}
use Rattle.std.proofs.lemmas.List.Concat.{flat_map-append}
use Rattle.clap.specs.Words.{Row}
use Rattle.run_words.specs.Words.{values_of, is_same, IsValue, AreUnits, AreDds, IsPath, IsPathOrNone, IsNumber, IsRun, AreMissing}
use Rattle.run_words.specs.Grammar.{all_names, given_each, options_in, values_in}
use Rattle.run_words.specs.Parts.{HaveSameValues}
use Rattle.run_words.specs.declared.name.Name.{Name}
use Rattle.run_words.specs.declared.name.Name.TheVariants as names
use Rattle.run_words.specs.declared.given.Given.{Given}
use Rattle.run_words.specs.declared.run.Run.{Run}
use Rattle.run_words.specs.declared.run.Run.TheVariants.{Jobs, Format, Make}
use Rattle.run_words.proofs.Ends.{not_false}
use Rattle.run_words.proofs.Walks.{AreValues}

-- ---- the values of all names

value_there : (b : Bool) (value : List ℕ) (rest : List (List ℕ)) → b ≡ true → All IsValue (cons_option (if b then Some value else None) rest) → IsValue value
value_there true value rest is all = All-head IsValue value rest all
value_there false value rest is all = absurd (not_false is)

rest_there : (b : Bool) (value : List ℕ) (rest : List (List ℕ)) → All IsValue (cons_option (if b then Some value else None) rest) → All IsValue rest
rest_there true value rest all = All-tail IsValue value rest all
rest_there false value rest all = all

values_there : (b : Bool) (value : List ℕ) (rest : List (List ℕ)) → IsValue value → All IsValue rest → All IsValue (cons_option (if b then Some value else None) rest)
values_there true value rest one all = All-cons IsValue value rest one all
values_there false value rest one all = all

same_self : (name : Name) → is_same name name ≡ true
same_self names.Unit = refl
same_self names.Journal = refl
same_self names.Sysin = refl
same_self names.Held = refl
same_self names.Out = refl
same_self names.In = refl
same_self names.FormatJournal = refl
same_self names.Make = refl

to_names : (options : List Given) → AreValues options → (name : Name) → All IsValue (values_of name options)
to_names [] all name = All-nil IsValue
to_names (given ∷ options) all name = values_there (is_same name given.name) given.value (values_of name options)
    (All-head (λ (given : Given). IsValue given.value) given options all) (to_names options (All-tail (λ (given : Given). IsValue given.value) given options all) name)

from_names : (options : List Given) → ((name : Name) → All IsValue (values_of name options)) → AreValues options
from_names [] all = All-nil (λ (given : Given). IsValue given.value)
from_names (given ∷ options) all = All-cons (λ (given : Given). IsValue given.value) given options
    (value_there (is_same given.name given.name) given.value (values_of given.name options) (same_self given.name) (all given.name))
    (from_names options (λ name. rest_there (is_same name given.name) given.value (values_of name options) (all name)))

pub same_are_values : (options others : List Given) → HaveSameValues options others → AreValues options → AreValues others
same_are_values options others same all = from_names others (λ name. subst (All IsValue) (same name) (to_names options all name))

-- ---- options that stand name by name

values_given : (name other : Name) (values : List (List ℕ)) → values_of name (given_each other values) ≡ (if is_same name other then values else [])
values_given name other [] = none (is_same name other)
  where
    none : (b : Bool) → ◌≡◌ {A = List (List ℕ)} [] (if b then [] else [])
    none true = refl
    none false = refl
values_given name other (value ∷ values) = ap (cons_option (if is_same name other then Some value else None)) (values_given name other values) ∙ go (is_same name other)
  where
    go : (b : Bool) → cons_option (if b then Some value else None) (if b then values else []) ≡ (if b then value ∷ values else [])
    go true = refl
    go false = refl

abbrev each_given : List Row → List Name → List Given
each_given rows some = flat_map (λ name. given_each name (values_in rows name)) some

each_name : (name : Name) (rows : List Row) (some : List Name) → values_of name (each_given rows some) ≡ flat_map (λ other. if is_same name other then values_in rows other else []) some
each_name name rows [] = refl
each_name name rows (other ∷ some) =
    filter_map-append (λ (given : Given). if is_same name given.name then Some given.value else None) (given_each other (values_in rows other)) (each_given rows some)
    ∙ ap₂ (λ (a b : List (List ℕ)). a ++ b) (values_given name other (values_in rows other)) (each_name name rows some)

pub values_apart : (rows : List Row) (name : Name) → values_of name (options_in rows) ≡ values_in rows name
values_apart rows name = each_name name rows all_names ∙ go name
  where
    go : (name : Name) → flat_map (λ other. if is_same name other then values_in rows other else []) all_names ≡ values_in rows name
    go names.Unit = append-nil (values_in rows names.Unit)
    go names.Journal = append-nil (values_in rows names.Journal)
    go names.Sysin = append-nil (values_in rows names.Sysin)
    go names.Held = append-nil (values_in rows names.Held)
    go names.Out = append-nil (values_in rows names.Out)
    go names.In = append-nil (values_in rows names.In)
    go names.FormatJournal = append-nil (values_in rows names.FormatJournal)
    go names.Make = append-nil (values_in rows names.Make)

-- the options of one name more
pub name_more : (rows : List Row) (some : List Name) (i : ℕ) (d : Name) → i < length some
    → each_given rows (take (i + 1) some) ≡ each_given rows (take i some) ++ given_each (get_or some i d) (values_in rows (get_or some i d))
name_more rows some i d lt =
    let each : Name → List Given = λ name. given_each name (values_in rows name) in
    ap (flat_map each) (take_more some i d lt) ∙ flat_map-append each (take i some) (get_or some i d ∷ [])
    ∙ ap (λ (t : List Given). flat_map each (take i some) ++ t) (append-nil (each (get_or some i d)))

-- ---- the run

abbrev count : Name → List Given → ℕ
count name options = length (values_of name options)

abbrev total : List Given → ℕ
total options = count names.Unit options + (count names.Journal options + (count names.Sysin options + (count names.Held options
    + (count names.Out options + (count names.In options + (count names.FormatJournal options + count names.Make options))))))

counted : (options : List Given) → total options ≡ length options
counted [] = refl
counted (given ∷ options) = go given.name (counted options)
  where
    go : (name : Name) → total options ≡ length options → total (record { name = name; value = given.value } ∷ options) ≡ suc (length options)
    go names.Unit e = omega (arith, e)
    go names.Journal e = omega (arith, e)
    go names.Sysin e = omega (arith, e)
    go names.Held e = omega (arith, e)
    go names.Out e = omega (arith, e)
    go names.In e = omega (arith, e)
    go names.FormatJournal e = omega (arith, e)
    go names.Make e = omega (arith, e)

same_total : (options others : List Given) → HaveSameValues options others → total options ≡ total others
same_total options others same =
    let each : (name : Name) → count name options ≡ count name others = λ name. ap (λ (values : List (List ℕ)). length values) (same name) in
    (λ i. each names.Unit i + (each names.Journal i + (each names.Sysin i + (each names.Held i
    + (each names.Out i + (each names.In i + (each names.FormatJournal i + each names.Make i)))))))

same_missing : (options others : List Given) (wanted : List Name) → HaveSameValues options others → AreMissing wanted options → AreMissing wanted others
same_missing options others wanted same missing = λ k d lt. sym (same _) ∙ missing k d lt

-- they ask for the same run
pub same_run : (options others : List Given) → HaveSameValues options others → (run : Run) → IsRun options run → IsRun others run
same_run options others same (Jobs units journal sysin held outs ins) is = record {
  units_are = subst (λ v. AreUnits v units) (same names.Unit) is.units_are;
  journal_is = subst (λ v. IsPath v journal) (same names.Journal) is.journal_is;
  sysin_is = subst (λ v. IsPath v sysin) (same names.Sysin) is.sysin_is;
  held_is = subst (λ v. IsPathOrNone v held) (same names.Held) is.held_is;
  outs_are = subst (λ v. AreDds v outs) (same names.Out) is.outs_are;
  ins_are = subst (λ v. AreDds v ins) (same names.In) is.ins_are;
  no_other = same_missing options others (names.FormatJournal ∷ names.Make ∷ []) same is.no_other;
}
same_run options others same (Format units journal room) is = record {
  units_are = subst (λ v. AreUnits v units) (same names.Unit) is.units_are;
  journal_is = subst (λ v. IsPath v journal) (same names.Journal) is.journal_is;
  room_is = subst (λ v. IsNumber 3 8191 v room) (same names.FormatJournal) is.room_is;
  no_other = same_missing options others (names.Make ∷ names.Sysin ∷ names.Held ∷ names.Out ∷ names.In ∷ []) same is.no_other;
}
same_run options others same (Make number) is = record {
  number_is = subst (λ v. IsNumber 1 200 v number) (same names.Make) is.number_is;
  alone = sym (counted others) ∙ sym (same_total options others same) ∙ counted options ∙ is.alone;
}
