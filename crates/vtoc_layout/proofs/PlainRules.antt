-- A VTOC with a layout has no record that is no DSCB, no second format 4, and no name twice.
use Rattle.std.proofs.Common.{◌≡◌, ◌≢◌, ℕ, ◌+◌, ◌||◌, ◌&&◌, List, [], ◌∷◌, map, not, Bool, true, false, All, Contains, Option, Some, None, refl, sym, ap, ◌∙◌}
use Rattle.std.specs.Prelude.{take}
use Rattle.std.proofs.lemmas.List.Elements.{All-head, All-tail}
use Rattle.volume_model.specs.declared.place.Placed.{Placed}
use Rattle.volume_model.specs.declared.place.Place.{Place}
use Rattle.volume_model.specs.declared.place.Vtoc.{Vtoc}
use Rattle.volume_model.specs.declared.rule.VtocRule.TheVariants as rules
use Rattle.volume_model.specs.Dscbs.{format_of, is_broken, is_f4}
use Rattle.volume_model.specs.Directory.{same_place}
use Rattle.volume_model.specs.Check.{breach, records_of, same_bytes, bad_tracks, bad_dscbs, bad_names}
use Rattle.vtoc_check.specs.Sized.{IsSized}
use Rattle.vtoc_layout.specs.Layout.{Layout, IsLayoutOf, name_of}
use Rattle.vtoc_layout.proofs.Distinct.{filter_nothing, from_map, one_of_map, no_later_ones}
use Rattle.volume_model.proofs.Numbers.{place_itself}
use Rattle.vtoc_layout.proofs.Uses.{one_of, is_four, none_broken, ones, distinct_f1s, same_ones}
use Rattle.volume_model.proofs.Numbers.{bytes_equal}

pub no_bad_tracks : (track : ℕ) (tracks : List (Option (List (List ℕ)))) → All (λ dscbs. dscbs ≢ None) tracks → bad_tracks track tracks ≡ []
no_bad_tracks track [] h = refl
no_bad_tracks track (None ∷ more) h = absurd (All-head (λ (dscbs : Option (List (List ℕ))). dscbs ≢ None) None more h refl)
no_bad_tracks track (Some dscbs ∷ more) h = no_bad_tracks (track + 1) more (All-tail (λ (dscbs : Option (List (List ℕ))). dscbs ≢ None) (Some dscbs) more h)

module _ (vtoc : Vtoc) (layout : Layout) (sized : IsSized vtoc) (is : IsLayoutOf vtoc layout) where
  one_four : (placed : Placed) → Contains (records_of vtoc) placed → (is_f4 (format_of placed.bytes) && not (same_place placed.place vtoc.format_4)) ≡ false
  one_four placed c = by (is_f4 (format_of placed.bytes)) refl
    where
      by : (t : Bool) → is_f4 (format_of placed.bytes) ≡ t → (t && not (same_place placed.place vtoc.format_4)) ≡ false
      by false e = refl
      by true e =
          let at : placed.place ≡ vtoc.format_4 = ap (λ (p : Placed). p.place) (is_four vtoc layout sized is placed c e) ∙ is.four_at in
          ap not (ap (λ (place : Place). same_place placed.place place) (sym at) ∙ place_itself placed.place)

  pub no_bad_dscbs : bad_dscbs vtoc ≡ []
  no_bad_dscbs =
      let test : Placed → Bool = λ placed. is_broken (format_of placed.bytes) || (is_f4 (format_of placed.bytes) && not (same_place placed.place vtoc.format_4)) in
      ap (λ (found : List Placed). map (breach rules.Dscb) found)
      (filter_nothing test (records_of vtoc) (λ placed c. (λ i. none_broken vtoc layout sized is placed c i || one_four placed c i)))

  pub no_bad_names : bad_names vtoc ≡ []
  no_bad_names =
      ap (λ (found : List Placed). map (breach rules.Name) found)
      (no_later_ones (λ later earlier. same_bytes (take 44 later.bytes) (take 44 earlier.bytes)) (ones vtoc layout sized is) (distinct_f1s vtoc layout sized is) other)
    where
      other : (a b : Placed) → Contains (ones vtoc layout sized is) a → Contains (ones vtoc layout sized is) b → ¬ (a ≡ b) → same_bytes (take 44 a.bytes) (take 44 b.bytes) ≡ false
      other a b p q differ = by (same_bytes (take 44 a.bytes) (take 44 b.bytes)) refl
        where
          same : take 44 a.bytes ≡ take 44 b.bytes → a ≡ b
          same names =
              let s = from_map one_of layout.sets a ((same_ones vtoc layout sized is).there a p) in
              let t = from_map one_of layout.sets b ((same_ones vtoc layout sized is).there b q) in
              let name : Placed → List ℕ = λ placed. take 44 placed.bytes in
              let sets : s.0 ≡ t.0 = one_of_map name_of layout.sets s.0 t.0 is.names s.1 t.1 (ap name s.2 ∙ names ∙ sym (ap name t.2)) in
              sym s.2 ∙ ap one_of sets ∙ t.2

          by : (t : Bool) → same_bytes (take 44 a.bytes) (take 44 b.bytes) ≡ t → t ≡ false
          by false e = refl
          by true e = absurd (differ (same (bytes_equal (take 44 a.bytes) (take 44 b.bytes) e)))
