-- The rows of values that a walk has, name by name.
use Rattle.std.proofs.Common.{◌≡◌, Bool, true, false, List, [], ◌∷◌, ◌++◌, fold, Some, None, sym, ap, ap₂, ◌∙◌, refl, append_assoc, append-nil}
use Rattle.std.specs.Prelude.{if◌then◌else◌}
use Rattle.std.specs.Str.{bytes_eq}
use Rattle.std.specs.List.{cons_option}
use Rattle.std.proofs.lemmas.Slice.Eq.{bytes_eq-Decides}
use Rattle.clap.specs.Walk.{Row, Text}
use Rattle.run_words.specs.Words.{is_same, values_of}
use Rattle.run_words.specs.Grammar.{bare, values_in}
use Rattle.run_words.specs.declared.name.Name.{Name}
use Rattle.run_words.specs.declared.given.Given.{Given}
use Rattle.run_words.proofs.Ends.{not_false}
use Rattle.run_words.proofs.Hyphens.{spelling_is}
use Rattle.run_words.proofs.Steps.{put}
use Rattle.run_words.proofs.Walks.{put_given}
use Rattle.ckd_image.proofs.Bools.{either_way}

-- names are the same where they are without their hyphens
same_bare : (name other : Name) → is_same name other ≡ bytes_eq (bare name) (bare other)
same_bare name other = ap₂ bytes_eq (spelling_is name) (spelling_is other)

module _ (name other : Name) (value : Text) where
  abbrev more : Bool → List Text
  more b = if b then value ∷ [] else []

  same_row : (r : Row) → bytes_eq r.id (bare other) ≡ true → bytes_eq r.id (bare name) ≡ is_same name other
  same_row r is =
      let id : r.id ≡ bare other = (bytes_eq-Decides r.id (bare other)).0 is in
      either_way _ _
      (λ e. same_bare name other ∙ (bytes_eq-Decides (bare name) (bare other)).1 (sym ((bytes_eq-Decides r.id (bare name)).0 e) ∙ id))
      (λ e. (bytes_eq-Decides r.id (bare name)).1 (id ∙ sym ((bytes_eq-Decides (bare name) (bare other)).0 (sym (same_bare name other) ∙ e))))

  other_row : (r : Row) → bytes_eq r.id (bare other) ≡ false → bytes_eq r.id (bare name) ≡ true → is_same name other ≡ false
  other_row r not is = go (is_same name other) refl
    where
      go : (b : Bool) → is_same name other ≡ b → b ≡ false
      go true same = absurd (not_false (sym not ∙ (bytes_eq-Decides r.id (bare other)).1
          ((bytes_eq-Decides r.id (bare name)).0 is ∙ (bytes_eq-Decides (bare name) (bare other)).0 (sym (same_bare name other) ∙ same))))
      go false same = refl

  first_row : (b : Bool) → bytes_eq (bare other) (bare name) ≡ b → values_in (put other value []) name ≡ more b
  first_row true is = rw is refl
  first_row false is = rw is refl

  -- one more value is behind those of its name, and the others stay
  put_values : (rows : List Row) → values_in (put other value rows) name ≡ values_in rows name ++ more (is_same name other)
  put_values [] = first_row _ refl ∙ ap more (either_way _ _
      (λ e. same_bare name other ∙ (bytes_eq-Decides (bare name) (bare other)).1 (sym ((bytes_eq-Decides (bare other) (bare name)).0 e)))
      (λ e. (bytes_eq-Decides (bare other) (bare name)).1 (sym ((bytes_eq-Decides (bare name) (bare other)).0 (sym (same_bare name other) ∙ e)))))
  put_values (r ∷ rows) = go (bytes_eq r.id (bare other)) (bytes_eq r.id (bare name)) refl refl (put_values rows)
    where
      go : (t u : Bool) → bytes_eq r.id (bare other) ≡ t → bytes_eq r.id (bare name) ≡ u → values_in (put other value rows) name ≡ values_in rows name ++ more (is_same name other)
          → values_in (put other value (r ∷ rows)) name ≡ values_in (r ∷ rows) name ++ more (is_same name other)
      go true true is here rest = rw (is, here, sym (same_row r is) ∙ here) refl
      go true false is here rest = rw (is, here, sym (same_row r is) ∙ here) (sym (append-nil (values_in rows name)))
      go false true is here rest = rw (is, here, other_row r is here) (sym (append-nil r.values))
      go false false is here rest = rw (is, here) rest

pub put_all : (name : Name) (options : List Given) (rows : List Row) → values_in (fold put_given rows options) name ≡ values_in rows name ++ values_of name options
put_all name [] rows = sym (append-nil (values_in rows name))
put_all name (given ∷ options) rows =
    put_all name options (put given.name given.value rows) ∙ ap (λ (t : List Text). t ++ values_of name options) (put_values name given.name given.value rows)
    ∙ append_assoc (values_in rows name) _ (values_of name options) ∙ ap (λ (t : List Text). values_in rows name ++ t) (go (is_same name given.name))
  where
    go : (b : Bool) → (if b then given.value ∷ [] else []) ++ values_of name options ≡ cons_option (if b then Some given.value else None) (values_of name options)
    go true = refl
    go false = refl
