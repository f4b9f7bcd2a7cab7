use Rattle.std.proofs.Common.{List, [], ◌∷◌, ◌++◌, map, All, sym, ap, subst, ◌∙◌}
use Rattle.std.proofs.lemmas.List.{map_more, map-append}
use Rattle.std.proofs.lemmas.List.Elements.{All-push}
use Rattle.vtoc_core.specs.declared.volume.Row.{Row}
use Rattle.vtoc_core.specs.Loaded.{row_in, HasItsName}
use Rattle.vtoc_load.specs.LoadedVtoc.{row_with}
use Rattle.vtoc_load.proofs.rows.rows_of.Goals as goal

pub loop-bytes-preserved : goal.loop-bytes-preserved
loop-bytes-preserved c =
    let row = c.in_ok-row.field-0 in
    let rows = c.loop-bytes.rows in
    let of_set = row_with c.args.directory.now.heads c.args.directory.now.records.items in
    let P : List Row → Type 0 = λ ys. All HasItsName ys in
    record {
      rows =
          ap (λ (ys : List Row). map row_in ys) c.in_ok-push.ensures.ok ∙ map-append row_in rows (row ∷ [])
          ∙ (λ i. c.loop-bytes.invariant.rows i ++ c.in_ok-row.ensures.row i ∷ [])
          ∙ sym (map_more of_set c.args.sets.now c.loop-bytes.bytes-index [] c.loop-bytes-test.true);
      names = subst P (sym c.in_ok-push.ensures.ok) (All-push HasItsName rows row c.loop-bytes.invariant.names c.in_ok-row.ensures.name);
    }
