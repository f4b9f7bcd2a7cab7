use Rattle.std.proofs.Common.{ℕ, ◌≤◌, List, arith, refl, sym, ap, ◌∙◌, subst}
use Rattle.ckd_image.specs.Device.{heads_of, slot_of}
use Rattle.volume_model.specs.Dscbs.{extent_at}
use Rattle.volume_model.specs.Directory.{named_place}
use Rattle.volume_model.specs.Space.{end_of, track_at, run_of}
use Rattle.volume_model.specs.Sound.{limit_of}
use Rattle.vtoc_check.specs.Slots.{slot_in}
use Rattle.vtoc_check.proofs.Readings.{are_short}
use Rattle.vtoc_check.proofs.VtocRead.{few_heads, some_heads, slot_short, run_within, run_has, limit_most, same_run}
use Rattle.vtoc_check.proofs.reading.read_vtoc.Goals as goal

pub read_tracks-requires-clause-within : goal.read_tracks-requires-clause-within
read_tracks-requires-clause-within c =
    let slots = slot_in c.args.run (slot_of c.args.head.device) c.args.slots.now in
    omega (arith, c.requires.tracks, run_within c.args.head slots c.args.pointer c.args.run c.requires.run, limit_most c.args.head c.requires.run.bytes)

pub place_at-requires : goal.place_at-requires
place_at-requires c = omega (arith, c.heads-heads.ensures, few_heads c.args.head.device)

pub returns-clause-vtoc : goal.returns-clause-vtoc
returns-clause-vtoc c =
    let head = c.args.head in
    let pointer = c.args.pointer in
    let slots = slot_in c.args.run (slot_of head.device) c.args.slots.now in
    let bytes = c.in_ok-bytes.bytes in
    let front = c.in_ok-bytes.ensures.front in
    let run = c.requires.run in
    let same = same_run head slots pointer c.args.run bytes (slot_short head.device c.args.run c.args.slots.now (track_at (heads_of head.device) pointer.at)) run front in (
      record {
        stands = record {
          bytes = bytes;
          format_4 = front.format_4;
          geometry = front.geometry;
          extent = front.extent;
          heads_are = c.heads-heads.ensures;
          limit_is = c.limit.ensures;
          place_is = c.place_at.ensures ∙ ap (λ (heads : ℕ). named_place heads pointer) c.heads-heads.ensures;
          valid_is = c.is_valid.ensures;
          alternates_are = c.from.ensures ∙ c.number_at.ensures;
          run_is = run.run_is ∙ ap (λ (b : List ℕ). run_of (heads_of head.device) (extent_at b 105)) same;
          reading = c.in_ok-tracks.ensures;
        };
        four_is = refl;
      },
      refl,
      record {
        some_heads = omega (arith, c.heads-heads.ensures, some_heads head.device);
        few_heads = omega (arith, c.heads-heads.ensures, few_heads head.device);
        limit_fits = omega (arith, c.limit.ensures, limit_most head bytes, c.requires.tracks);
        alternates_fit = omega arith;
        run_within = let P : ℕ → Type 0 = λ n. end_of c.args.run ≤ n in subst P (ap (limit_of head) same ∙ sym c.limit.ensures) (run_within head slots pointer c.args.run run);
        run_has = run_has head slots pointer c.args.run run;
        whole = c.in_ok-tracks.ensures.whole;
        short = are_short (heads_of head.device) slots c.args.run c.in_ok-tracks.tracks c.in_ok-tracks.ensures;
      },
    )
