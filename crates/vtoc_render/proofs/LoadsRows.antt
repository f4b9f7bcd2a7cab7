-- The rows and the sets after a change.
use Rattle.std.proofs.Common.{◌≡◌, ℕ, List, [], map, All, true, Option, Some, None, IfSome, refl, sym, ap, subst, ◌∙◌}
use Rattle.std.specs.Prelude.{option_to_list}
use Rattle.std.proofs.lemmas.List.Elements.{All-nil, All-cons}
use Rattle.ckd_image.specs.Device.{heads_of}
use Rattle.dscb_rec.specs.declared.field.Extent.{Extent}
use Rattle.volume_model.specs.declared.extent.ExtentField.{ExtentField}
use Rattle.volume_model.specs.Space.{is_run, run_of}
use Rattle.vtoc_core.specs.declared.volume.Row.{Row}
use Rattle.vtoc_core.specs.declared.volume.Volume.{Volume}
use Rattle.vtoc_core.specs.Loaded.{field_of}
use Rattle.vtoc_plan.specs.Plan.{Putting}
use Rattle.volume_change.specs.Runs.{runs_in}
use Rattle.render_laws.specs.Rendered.{runs_put}
use Rattle.vtoc_render.specs.Next.{runs_of_rows}
use Rattle.vtoc_render.proofs.May.{IsFit}
use Rattle.vtoc_render.specs.Change.{putting_of}
use Rattle.vtoc_render.proofs.LoadsPlan.{nothing_more}

-- the runs of what is put are those of its row
pub runs_put_are : (volume : Volume) (put : Option Row) → runs_put (heads_of volume.device) (putting_of put) ≡ runs_of_rows volume (option_to_list put)
runs_put_are volume None = refl
runs_put_are volume (Some row) =
    ap (λ (fields : List ExtentField). map (run_of (heads_of volume.device)) fields) (nothing_more (map field_of row.extents))
    ∙ sym (nothing_more (runs_in (heads_of volume.device) row.extents))

-- its extents are runs below the usable tracks
pub ranges_put : (volume : Volume) (heads : ℕ) (put : Option Row) → heads_of volume.device ≡ heads → IfSome put (IsFit volume)
    → All (λ p. All (λ extent. is_run heads volume.usable (field_of extent) ≡ true) p.extents) (putting_of put)
ranges_put volume heads None same fits = All-nil (λ (p : Putting). All (λ extent. is_run heads volume.usable (field_of extent) ≡ true) p.extents)
ranges_put volume heads (Some row) same fits =
    All-cons (λ (p : Putting). All (λ extent. is_run heads volume.usable (field_of extent) ≡ true) p.extents) (record { format_1 = row.f1; extents = row.extents }) []
    (subst (λ (heads : ℕ). All (λ (extent : Extent). is_run heads volume.usable (field_of extent) ≡ true) row.extents) same fits.below)
    (All-nil (λ (p : Putting). All (λ extent. is_run heads volume.usable (field_of extent) ≡ true) p.extents))
