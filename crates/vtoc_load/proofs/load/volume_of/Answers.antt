use Rattle.std.proofs.Common.{◌≡◌, ℕ, ◌<◌, ◌≤◌, length, ap, ◌∙◌, arith, Fits, w32}
use Rattle.volume_model.specs.Directory.{placed_in}
use Rattle.volume_model.specs.Check.{records_of}
use Rattle.vtoc_load.proofs.Sizes.{few_records}
use Rattle.vtoc_load.proofs.load.volume_of.Goals as goal

-- what is at most as long as the records fits
fits : (most n : ℕ) → most < 4294967296 → n ≤ most → Fits w32 n
fits most n few le = omega (arith, few, le)

pub rows_in_order-requires : goal.rows_in_order-requires
rows_in_order-requires c =
    let vtoc = c.args.found.now.vtoc in
    let same : c.in_ok-directory.directory.records.items ≡ records_of vtoc = c.in_ok-directory.ensures.1 ∙ ap (placed_in vtoc.run.first) c.as_slice-tracks.ensures in
    omega (arith, few_records vtoc c.requires.sized, ap length same)

pub overflow_cast-result : goal.overflow_cast-result
overflow_cast-result c =
    let vtoc = c.args.found.now.vtoc in
    let same : c.records-records.result.now ≡ records_of vtoc = c.records-records.ensures ∙ c.in_ok-directory.ensures.1 ∙ ap (placed_in vtoc.run.first) c.as_slice-tracks.ensures in
    fits (length (records_of vtoc)) (length c.records-records.result.now) (few_records vtoc c.requires.sized) (omega (arith, ap length same))

pub overflow_cast-result-2 : goal.overflow_cast-result-2
overflow_cast-result-2 c =
    let vtoc = c.args.found.now.vtoc in
    let same : c.records-records.result.now ≡ records_of vtoc = c.records-records.ensures ∙ c.in_ok-directory.ensures.1 ∙ ap (placed_in vtoc.run.first) c.as_slice-tracks.ensures in
    fits (length (records_of vtoc)) (c.count_free.result) (few_records vtoc c.requires.sized) (omega (arith, ap length same, c.count_free.ensures.most))

pub overflow_cast-result-3 : goal.overflow_cast-result-3
overflow_cast-result-3 c =
    let vtoc = c.args.found.now.vtoc in
    let same : c.records-records.result.now ≡ records_of vtoc = c.records-records.ensures ∙ c.in_ok-directory.ensures.1 ∙ ap (placed_in vtoc.run.first) c.as_slice-tracks.ensures in
    fits (length (records_of vtoc)) (c.count_fives.result) (few_records vtoc c.requires.sized) (omega (arith, ap length same, c.count_fives.ensures.most))
