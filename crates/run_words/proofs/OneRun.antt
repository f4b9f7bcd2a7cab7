-- Options ask for one run at most.
use Rattle.std.proofs.Common.{◌≡◌, ℕ, List, [], ◌∷◌, get_or, Option, Some, None, sym, ap, subst, ◌∙◌, arith, refl}
use Rattle.std.specs.List.{AllZip}
use Rattle.by_rules.specs.Words.{number_up_to}
use Rattle.dd_names.specs.declared.dd.DdName.{DdName}
use Rattle.dd_names.specs.DdName.{dd_name_of}
use Rattle.vol_label.specs.declared.serial.Serial.{Serial}
use Rattle.vol_label.proofs.OneLabel as labels
use Rattle.vol_label.specs.Serial as serials
use Rattle.run_words.specs.Words.{values_of, IsParted, IsUnit, IsDd, AreUnits, AreDds, IsPath, IsPathOrNone, IsNumber, IsJobs, IsFormat, IsRun}
use Rattle.run_words.specs.Laws.{HaveOneRun}
use Rattle.run_words.specs.declared.name.Name.TheVariants as names
use Rattle.run_words.specs.declared.given.Given.{Given}
use Rattle.run_words.specs.declared.run.Run.{Run}
use Rattle.run_words.specs.declared.run.Run.TheVariants.{Jobs, Format, Make}
use Rattle.run_words.proofs.Signs.{same_name, same_rest}
use Rattle.run_words.proofs.Lists.{one_zip}
use Rattle.run_words.proofs.Taken.{same_spelled}
use Rattle.run_words.proofs.Same.{same_run}

pub parted_name : (value a b x y : List ℕ) → IsParted value a x → IsParted value b y → a ≡ b
parted_name value a b x y p q = same_name a b x y p.first q.first (sym p.parts ∙ q.parts)

pub parted_path : (value a b x y : List ℕ) → IsParted value a x → IsParted value b y → x ≡ y
parted_path value a b x y p q = same_rest a b x y p.first q.first (sym p.parts ∙ q.parts)

pub one_unit : (value : List ℕ) (a b : Serial × List ℕ) → IsUnit value a → IsUnit value b → a ≡ b
one_unit value a b p q =
    let name = parted_name value p.0 q.0 a.1 b.1 p.1 q.1 in
    let path = parted_path value p.0 q.0 a.1 b.1 p.1 q.1 in
    let text : a.0.text ≡ b.0.text = labels.one_spelling q.0 a.0.text b.0.text (subst (λ (t : List ℕ). serials.Spells t a.0.text) name p.3) q.3 in
    (λ i. (record { text = text i }, path i))

pub one_dd : (value : List ℕ) (a b : DdName × List ℕ) → IsDd value a → IsDd value b → a ≡ b
one_dd value a b p q =
    let name = parted_name value p.0 q.0 a.1 b.1 p.1 q.1 in
    let path = parted_path value p.0 q.0 a.1 b.1 p.1 q.1 in
    let dd : a.0 ≡ b.0 = p.3 ∙ ap dd_name_of name ∙ sym q.3 in
    (λ i. (dd i, path i))

same_units : (values : List (List ℕ)) (a b : List (Serial × List ℕ)) → AreUnits values a → AreUnits values b → a ≡ b
same_units values a b p q = one_zip IsUnit one_unit values a b p.named q.named

same_dds : (values : List (List ℕ)) (a b : List (DdName × List ℕ)) → AreDds values a → AreDds values b → a ≡ b
same_dds values a b p q = one_zip IsDd one_dd values a b p.named q.named

-- values name no other units and dumps
pub units_are : (values : List (List ℕ)) (units others : List (Serial × List ℕ)) → AllZip IsUnit values units → AreUnits values others → others ≡ units
units_are values units others zip h = one_zip IsUnit one_unit values others units h.named zip

pub dds_are : (values : List (List ℕ)) (dds others : List (DdName × List ℕ)) → AllZip IsDd values dds → AreDds values others → others ≡ dds
dds_are values dds others zip h = one_zip IsDd one_dd values others dds h.named zip

same_path : (values : List (List ℕ)) (a b : List ℕ) → IsPath values a → IsPath values b → a ≡ b
same_path values a b p q = ap (λ (t : List (List ℕ)). get_or t 0 []) (sym p.only ∙ q.only)

pub not_one : {X : Type 0} (xs : List X) (x : X) → xs ≡ x ∷ [] → xs ≡ [] → ⊥
not_one {X} xs x one none = let e : [] ≡ x ∷ [] = sym none ∙ one in cc

same_held : (values : List (List ℕ)) (a b : Option (List ℕ)) → IsPathOrNone values a → IsPathOrNone values b → a ≡ b
same_held values None None p q = refl
same_held values None (Some b) p q = absurd (not_one values b q.only p)
same_held values (Some a) None p q = absurd (not_one values a p.only q)
same_held values (Some a) (Some b) p q = ap (λ (t : List ℕ). Some t) (same_path values a b p q)

abbrev or_number : Option ℕ → ℕ
or_number None = 0
or_number (Some number) = number

same_number : (least most : ℕ) (values : List (List ℕ)) (a b : ℕ) → IsNumber least most values a → IsNumber least most values b → a ≡ b
same_number least most values a b p q =
    let digits : p.digits ≡ q.digits = ap (λ (t : List (List ℕ)). get_or t 0 []) (sym p.only ∙ q.only) in
    ap or_number (sym p.spelled ∙ ap (number_up_to most) digits ∙ q.spelled)

pub no_jobs_format : (options : List Given) (units : List (Serial × List ℕ)) (journal sysin : List ℕ) (held : Option (List ℕ)) (outs ins : List (DdName × List ℕ))
    → IsJobs options units journal sysin held outs ins → values_of names.FormatJournal options ≡ []
no_jobs_format options units journal sysin held outs ins h = h.no_other 0 names.Make (omega arith)

pub no_jobs_make : (options : List Given) (units : List (Serial × List ℕ)) (journal sysin : List ℕ) (held : Option (List ℕ)) (outs ins : List (DdName × List ℕ))
    → IsJobs options units journal sysin held outs ins → values_of names.Make options ≡ []
no_jobs_make options units journal sysin held outs ins h = h.no_other 1 names.Make (omega arith)

pub no_format_make : (options : List Given) (units : List (Serial × List ℕ)) (journal : List ℕ) (room : ℕ) → IsFormat options units journal room → values_of names.Make options ≡ []
no_format_make options units journal room h = h.no_other 0 names.Make (omega arith)

one_run : (options : List Given) (a b : Run) → IsRun options a → IsRun options b → a ≡ b
one_run options (Jobs u j s h o n) (Jobs u' j' s' h' o' n') p q =
    let units = same_units _ u u' p.units_are q.units_are in
    let journal = same_path _ j j' p.journal_is q.journal_is in
    let sysin = same_path _ s s' p.sysin_is q.sysin_is in
    let held = same_held _ h h' p.held_is q.held_is in
    let outs = same_dds _ o o' p.outs_are q.outs_are in
    let ins = same_dds _ n n' p.ins_are q.ins_are in
    (λ i. Jobs (units i) (journal i) (sysin i) (held i) (outs i) (ins i))
one_run options (Jobs u j s h o n) (Format u' j' r) p q = absurd (not_one _ _ q.room_is.only (no_jobs_format options u j s h o n p))
one_run options (Jobs u j s h o n) (Make m) p q = absurd (not_one _ _ q.number_is.only (no_jobs_make options u j s h o n p))
one_run options (Format u j r) (Jobs u' j' s' h' o' n') p q = absurd (not_one _ _ p.room_is.only (no_jobs_format options u' j' s' h' o' n' q))
one_run options (Format u j r) (Format u' j' r') p q =
    let units = same_units _ u u' p.units_are q.units_are in
    let journal = same_path _ j j' p.journal_is q.journal_is in
    let room = same_number 3 8191 _ r r' p.room_is q.room_is in
    (λ i. Format (units i) (journal i) (room i))
one_run options (Format u j r) (Make m) p q = absurd (not_one _ _ q.number_is.only (no_format_make options u j r p))
one_run options (Make m) (Jobs u j s h o n) p q = absurd (not_one _ _ p.number_is.only (no_jobs_make options u j s h o n q))
one_run options (Make m) (Format u j r) p q = absurd (not_one _ _ p.number_is.only (no_format_make options u j r q))
one_run options (Make m) (Make m') p q = ap (λ (n : ℕ). Make n) (same_number 1 200 _ m m' p.number_is q.number_is)

pub words_have_one_run : HaveOneRun
words_have_one_run words options others run other p q p' q' = one_run others run other (same_run options others (same_spelled words options others p p') run q) q'
