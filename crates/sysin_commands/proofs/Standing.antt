-- Which operands stand together.
use Rattle.std.proofs.Common.{◌≡◌, ℕ, List, [], ◌∷◌, ◌++◌, refl, sym, ap, subst, ◌∙◌, Bool, true, false, arith}
use Rattle.std.specs.Prelude.{◌==◌, not, ◌&&◌, ◌||◌, if◌then◌else◌, map}
use Rattle.std.specs.List.{list_any}
use Rattle.std.proofs.lemmas.Bool.Decides.{nat_tests}
use Rattle.sysin_words.specs.declared.keyword.Keyword.{Keyword}
use Rattle.sysin_words.specs.declared.keyword.Keyword.TheVariants as keywords
use Rattle.sysin_words.specs.declared.lead.Verb.{Verb}
use Rattle.sysin_words.specs.declared.lead.Verb.TheVariants as verbs
use Rattle.sysin_forms.specs.declared.form.Form.{Form}
use Rattle.sysin_forms.specs.declared.form.Form.TheVariants as forms
use Rattle.sysin_forms.specs.declared.operand.Operand.{Operand}
use Rattle.sysin_forms.specs.Operand.{operand_number, name_of, clash}
use Rattle.sysin_forms.specs.Form.{verb_of_form, forms_of, keywords_of, place_of, is_one_of}
use Rattle.sysin_commands.specs.Command.{takes_all}
use Rattle.sysin_commands.specs.CommandProgress.{one_clashes, has_form, may_stand, has_room, may_have_more}
use Rattle.std.proofs.lemmas.Bool.{or_right, and_from, not-true}
use Rattle.ckd_image.proofs.Bools.{and_first, and_second}

-- ---- tests of two facts

pub is_not : (a : Bool) → a ≡ false → not a ≡ true
is_not true e = cc
is_not false e = refl

-- ---- forms of a verb

pub form_found : (form : Form) (test : Form → Bool) → test form ≡ true → list_any test (forms_of (verb_of_form form)) ≡ true
form_found forms.Print test e = rw e refl
form_found forms.Release test e = rw e refl
form_found forms.Consolidate test e = rw e refl
form_found forms.Defrag test e = rw e refl
form_found forms.Copy test e = rw e refl
form_found forms.DumpDataset test e = rw e refl
form_found forms.DumpFull test e = second (test forms.DumpDataset) (test forms.DumpFull) e
  where
    second : (a b : Bool) → b ≡ true → (a || (b || false)) ≡ true
    second true b e = refl
    second false true e = refl
    second false false e = e
form_found forms.RestoreDataset test e = rw e refl
form_found forms.RestoreFull test e = second (test forms.RestoreDataset) (test forms.RestoreFull) e
  where
    second : (a b : Bool) → b ≡ true → (a || (b || false)) ≡ true
    second true b e = refl
    second false true e = refl
    second false false e = e

pub form_at : (verb : Verb) (form : Form) (test : Form → Bool) → verb_of_form form ≡ verb → test form ≡ true → list_any test (forms_of verb) ≡ true
form_at verb form test own e = subst (λ (v : Verb). list_any test (forms_of v) ≡ true) own (form_found form test e)

abbrev pub IsFormWith : Verb → (Form → Bool) → Type 0
IsFormWith verb test = (form : Form) × (verb_of_form form ≡ verb) × (test form ≡ true)

alone : (form : Form) (test : Form → Bool) → (test form || false) ≡ true → IsFormWith (verb_of_form form) test
alone form test e = (form, refl, only (test form) e)
  where
    only : (a : Bool) → (a || false) ≡ true → a ≡ true
    only true e = refl
    only false e = e

one_of : (verb : Verb) (first second : Form) (test : Form → Bool) → verb_of_form first ≡ verb → verb_of_form second ≡ verb → (test first || (test second || false)) ≡ true → IsFormWith verb test
one_of verb first second test own own' e = by_test (test first) (test second) refl refl e
  where
    by_test : (a b : Bool) → test first ≡ a → test second ≡ b → (a || (b || false)) ≡ true → IsFormWith verb test
    by_test true b f g h = (first, own, f)
    by_test false true f g h = (second, own', g)
    by_test false false f g h = cc

pub some_form : (verb : Verb) (test : Form → Bool) → list_any test (forms_of verb) ≡ true → IsFormWith verb test
some_form verbs.Print test e = alone forms.Print test e
some_form verbs.Release test e = alone forms.Release test e
some_form verbs.Consolidate test e = alone forms.Consolidate test e
some_form verbs.Defrag test e = alone forms.Defrag test e
some_form verbs.Copy test e = alone forms.Copy test e
some_form verbs.Dump test e = one_of verbs.Dump forms.DumpDataset forms.DumpFull test refl refl e
some_form verbs.Restore test e = one_of verbs.Restore forms.RestoreDataset forms.RestoreFull test refl refl e

pub first_form : (verb : Verb) → (form : Form) × (verb_of_form form ≡ verb)
first_form verbs.Print = (forms.Print, refl)
first_form verbs.Release = (forms.Release, refl)
first_form verbs.Consolidate = (forms.Consolidate, refl)
first_form verbs.Defrag = (forms.Defrag, refl)
first_form verbs.Copy = (forms.Copy, refl)
first_form verbs.Dump = (forms.DumpDataset, refl)
first_form verbs.Restore = (forms.RestoreDataset, refl)

-- ---- keywords of a form

-- each keyword has its own number
keyword_at : ℕ → Keyword
keyword_at n = if n == 0 then keywords.LogicalInput else (if n == 1 then keywords.Vtoc else (if n == 2 then keywords.Full else (if n == 3 then keywords.Input else (if n == 4 then keywords.Output else (if n == 5 then keywords.Dataset else (if n == 6 then keywords.Include else (if n == 7 then keywords.Exclude else (if n == 8 then keywords.By else (if n == 9 then keywords.Index else (if n == 10 then keywords.Limit else (if n == 11 then keywords.Delete else (if n == 12 then keywords.Purge else (if n == 13 then keywords.Reset else (if n == 14 then keywords.Replace else (if n == 15 then keywords.Rename else (if n == 16 then keywords.Tolerate else (if n == 17 then keywords.Wait else keywords.Optimize)))))))))))))))))

placed : (keyword : Keyword) → keyword_at (place_of keyword) ≡ keyword
unfolding keyword_at
placed keywords.Vtoc = refl
placed keywords.Full = refl
placed keywords.Input = refl
placed keywords.LogicalInput = refl
placed keywords.Output = refl
placed keywords.Dataset = refl
placed keywords.Include = refl
placed keywords.Exclude = refl
placed keywords.By = refl
placed keywords.Index = refl
placed keywords.Limit = refl
placed keywords.Delete = refl
placed keywords.Purge = refl
placed keywords.Reset = refl
placed keywords.Replace = refl
placed keywords.Rename = refl
placed keywords.Tolerate = refl
placed keywords.Wait = refl
placed keywords.Optimize = refl

same_number : (a b : ℕ) → (a == b) ≡ true → a ≡ b
same_number a b e = grind (arith, nat_tests)

pub equal_numbers : (a : ℕ) → (a == a) ≡ true
equal_numbers a = grind (arith, nat_tests)

pub same_place : (keyword other : Keyword) → (place_of other == place_of keyword) ≡ true → other ≡ keyword
same_place keyword other e = sym (placed other) ∙ ap keyword_at (same_number (place_of other) (place_of keyword) e) ∙ placed keyword

-- an operand clashes with itself
pub clash_self : (keyword : Keyword) → clash keyword keyword ≡ true
clash_self keyword = rw (equal_numbers (operand_number keyword)) refl

-- one of a list passes a test that it passes
pub one_passes : (list : List Keyword) (keyword : Keyword) (test : Keyword → Bool) → is_one_of list keyword ≡ true → test keyword ≡ true → list_any test list ≡ true
one_passes [] keyword test e f = e
one_passes (other ∷ list) keyword test e f = by_place (one_passes list keyword test) (place_of other == place_of keyword) refl e
  where
    by_place : (is_one_of list keyword ≡ true → test keyword ≡ true → list_any test list ≡ true) → (a : Bool) → (place_of other == place_of keyword) ≡ a → (a || is_one_of list keyword) ≡ true
        → list_any test (other ∷ list) ≡ true
    by_place more true p g = let same = same_place keyword other p in let here : test other ≡ true = ap test same ∙ f in rw here refl
    by_place more false p g = or_right (test other) (list_any test list) (more g f)

abbrev Passes : List Keyword → (Keyword → Bool) → Type 0
Passes list test = (keyword : Keyword) × (is_one_of list keyword ≡ true) × (test keyword ≡ true)

pub some_passes : (list : List Keyword) (test : Keyword → Bool) → list_any test list ≡ true → Passes list test
some_passes [] test e = cc
some_passes (first ∷ list) test e = by_test (some_passes list test) (test first) refl e
  where
    by_test : (list_any test list ≡ true → Passes list test) → (a : Bool) → test first ≡ a → (a || list_any test list) ≡ true → Passes (first ∷ list) test
    by_test more true f g = (first, (rw (equal_numbers (place_of first)) refl), f)
    by_test more false f g = let s = more g in (s.0, or_right (place_of first == place_of s.0) (is_one_of list s.0) s.1, s.2)

-- ---- what may stand

pub none_clashes : (verb : Verb) (list : List Operand) (keyword : Keyword) → may_stand verb list keyword ≡ true → one_clashes list keyword ≡ false
none_clashes verb list keyword e = not-true (one_clashes list keyword) (and_second (has_form verb list keyword) (not (one_clashes list keyword)) e)

pub form_with_one : (verb : Verb) (list : List Operand) (keyword : Keyword) → may_stand verb list keyword ≡ true
    → (form : Form) × (verb_of_form form ≡ verb) × (takes_all form list ≡ true) × (is_one_of (keywords_of form) keyword ≡ true)
form_with_one verb list keyword e =
    let f = some_form verb (λ (form : Form). takes_all form list && is_one_of (keywords_of form) keyword) (and_first (has_form verb list keyword) (not (one_clashes list keyword)) e) in
    (f.0, f.1, and_first (takes_all f.0 list) (is_one_of (keywords_of f.0) keyword) f.2, and_second (takes_all f.0 list) (is_one_of (keywords_of f.0) keyword) f.2)

pub may : (verb : Verb) (form : Form) (list : List Operand) (keyword : Keyword) → verb_of_form form ≡ verb → takes_all form list ≡ true → is_one_of (keywords_of form) keyword ≡ true
    → one_clashes list keyword ≡ false → may_stand verb list keyword ≡ true
may verb form list keyword own all one none =
    and_from (has_form verb list keyword) (not (one_clashes list keyword))
    (form_at verb form (λ (form : Form). takes_all form list && is_one_of (keywords_of form) keyword) own (and_from (takes_all form list) (is_one_of (keywords_of form) keyword) all one))
    (is_not (one_clashes list keyword) none)

-- one may where there is room
pub room_for : (verb : Verb) (list : List Operand) → may_have_more verb list ≡ true → (keyword : Keyword) × (may_stand verb list keyword ≡ true)
room_for verb list e =
    let f = some_form verb (λ (form : Form). has_room form list) e in
    let free : Keyword → Bool = λ keyword. not (one_clashes list keyword) in
    let all = and_first (takes_all f.0 list) (list_any free (keywords_of f.0)) f.2 in
    let s = some_passes (keywords_of f.0) free (and_second (takes_all f.0 list) (list_any free (keywords_of f.0)) f.2) in
    (s.0, may verb f.0 list s.0 f.1 all s.1 (not-true (one_clashes list s.0) s.2))

pub has_more : (verb : Verb) (list : List Operand) (keyword : Keyword) → may_stand verb list keyword ≡ true → may_have_more verb list ≡ true
has_more verb list keyword e =
    let f = form_with_one verb list keyword e in
    let free : Keyword → Bool = λ keyword. not (one_clashes list keyword) in
    form_at verb f.0 (λ (form : Form). has_room form list) f.1
    (and_from (takes_all f.0 list) (list_any free (keywords_of f.0)) f.2 (one_passes (keywords_of f.0) keyword free f.3 (is_not (one_clashes list keyword) (none_clashes verb list keyword e))))

-- ---- all of a form

pub takes_more : (form : Form) (list : List Operand) (operand : Operand) → takes_all form list ≡ true → is_one_of (keywords_of form) (name_of operand) ≡ true → takes_all form (list ++ operand ∷ []) ≡ true
takes_more form [] operand e f = and_from (is_one_of (keywords_of form) (name_of operand)) true f refl
takes_more form (first ∷ list) operand e f =
    let here = and_first (is_one_of (keywords_of form) (name_of first)) (takes_all form list) e in
    let later = and_second (is_one_of (keywords_of form) (name_of first)) (takes_all form list) e in
    and_from (is_one_of (keywords_of form) (name_of first)) (takes_all form (list ++ operand ∷ [])) here (takes_more form list operand later f)

pub takes_front : (form : Form) (firsts : List Operand) (operand : Operand) (others : List Operand) → takes_all form (firsts ++ operand ∷ others) ≡ true
    → (takes_all form firsts ≡ true) × (is_one_of (keywords_of form) (name_of operand) ≡ true)
takes_front form [] operand others e = (refl, and_first (is_one_of (keywords_of form) (name_of operand)) (takes_all form others) e)
takes_front form (first ∷ firsts) operand others e =
    let here = and_first (is_one_of (keywords_of form) (name_of first)) (takes_all form (firsts ++ operand ∷ others)) e in
    let f = takes_front form firsts operand others (and_second (is_one_of (keywords_of form) (name_of first)) (takes_all form (firsts ++ operand ∷ others)) e) in
    (and_from (is_one_of (keywords_of form) (name_of first)) (takes_all form firsts) here f.0, f.1)

-- the names alone count
pub takes_names : (form : Form) (list others : List Operand) → map name_of list ≡ map name_of others → takes_all form others ≡ true → takes_all form list ≡ true
takes_names form [] others same e = refl
takes_names form (operand ∷ list) [] same e = cc
takes_names form (operand ∷ list) (other ∷ others) same e =
    let names : name_of operand ≡ name_of other = cc in
    let more : map name_of list ≡ map name_of others = cc in
    let here = and_first (is_one_of (keywords_of form) (name_of other)) (takes_all form others) e in
    let later = and_second (is_one_of (keywords_of form) (name_of other)) (takes_all form others) e in
    and_from (is_one_of (keywords_of form) (name_of operand)) (takes_all form list) (ap (is_one_of (keywords_of form)) names ∙ here) (takes_names form list others more later)
