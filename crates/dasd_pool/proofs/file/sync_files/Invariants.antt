use Rattle.std.proofs.Common.{◌≡◌, false, All, length, take}
use Rattle.dasd_pool.proofs.file.sync_files.Given as goal

abbrev pub invariant-loop-unit : goal.invariant-loop-unit
invariant-loop-unit g l = record {
  long : length l.files ≡ length l.fn.files;
  synced : All (λ it. it.unsynced ≡ false) (take l.unit l.files);
}
