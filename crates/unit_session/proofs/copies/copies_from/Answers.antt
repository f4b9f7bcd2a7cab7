use Rattle.std.proofs.Common.{◌≡◌, ◌==◌, ◌++◌, ◌-◌, ℕ, List, length, take, drop, get_or, refl, sym, ap, subst, ◌∙◌, arith}
use Rattle.std.proofs.lemmas.List.{drop_min}
use Rattle.std.specs.Prelude.{min}
use Rattle.volume_model.specs.Pinned.{IsNameOf}
use Rattle.vtoc_core.specs.declared.volume.Row.{Row}
use Rattle.unit_steps.specs.Plans.{HasRow, tracks_in}
use Rattle.unit_session.specs.Copies.{moves_between}
use Rattle.unit_session.proofs.CopyingMoves.{rest_all}
use Rattle.unit_session.proofs.copies.copies_from.Goals as goal

pub returns : goal.returns
returns c =
    let both = c.in-Some-Some-Some in
    let row = c.index-as_slice-place.result in
    let old = tracks_in both.from.now row in
    let new = tracks_in both.volume.now both.row.now in
    let found = c.in-Some.ensures.found in
    let at : row ≡ get_or both.from.now.rows c.in-Some.place row = c.index-as_slice-place.is ∙ ap (λ (l : List Row). get_or l c.in-Some.place row) c.as_slice.ensures in
    let has : HasRow both.from.now c.args.source.name row = record {
      lawful = c.requires.source.3.lawful;
      there = (c.in-Some.place, found.0, sym at);
      name_is = subst (λ (r : Row). IsNameOf c.args.source.name r.name) (sym at) (found.1 row);
    } in
    let old_is : c.in_ok-old.old.items ≡ old = c.in_ok-old.ensures in
    let new_is : c.in_ok-new.new.items ≡ new = c.in_ok-new.ensures in
    let old_at : c.deref-2.result.now ≡ old = c.deref-2.ensures.value ∙ old_is in
    let new_at : c.deref-3.result.now ≡ new = c.deref-3.ensures.value ∙ new_is in
    let moves : c.in_ok-moves_of.field-0.items ≡ moves_between (c.args.source.unit == c.args.unit) old new =
    c.in_ok-moves_of.ensures ∙ (λ i. moves_between (c.args.source.unit == c.args.unit) (old_at i) (new_at i)) in
    let whole : c.deref.result.now ≡ new = c.deref.ensures.value ∙ new_is in
    let least : c.min.result ≡ min (length old) (length new) = omega (arith, c.min.ensures, c.len.ensures, c.len-2.ensures, ap length old_is, ap length new_is) in
    let empties : c.extend_from_slice.new.self.items ≡ drop (length old) new =
    c.in_ok-extend_from_slice.ensures.items
    ∙ ap (λ (l : List ℕ). l ++ take (length c.deref.result.now - c.min.result) (drop c.min.result c.deref.result.now)) c.new-empty.ensures.items
    ∙ rest_all c.deref.result.now c.min.result ∙ (λ i. drop (least i) (whole i)) ∙ drop_min (length old) new in (
      _,
      refl,
      (
        both.from.now,
        both.volume.now,
        row,
        both.row.now,
        both.ensures.found,
        has,
        both.ensures'.found,
        both.ensures''.found,
        record {
          device_is = refl;
          from_is = refl;
          unit_is = refl;
          moves_are = moves;
          empty_are = empties;
        },
      ),
    )
