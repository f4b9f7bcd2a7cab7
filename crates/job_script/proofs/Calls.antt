-- Which files the commands call that are built.
use Rattle.std.proofs.Common.{}
use Rattle.sysin_lang.specs.declared.command.Command.{Command}
use Rattle.sysin_lang.specs.declared.command.Command.TheVariants as commands
use Rattle.job_ops.specs.Meaning.{CallsNoFile, IsBuilt, ReadsNoInput}

-- a command that is built reads no input
pub reads_none : (command : Command) → IsBuilt command → ReadsNoInput command
reads_none (commands.PrintVtoc unit) built = tt {0}
reads_none (commands.Release filter unit) built = tt {0}
reads_none (commands.Consolidate filter unit) built = tt {0}
reads_none (commands.Defrag unit index limit) built = tt {0}
reads_none (commands.Copy filter unit to delete purge replace rename tolerate) built = tt {0}
reads_none (commands.DumpDataset filter unit outs reset delete purge tolerate) built = tt {0}
reads_none (commands.DumpFull unit outs) built = absurd built
reads_none (commands.RestoreDataset filter input to purge replace rename) built = absurd built
reads_none (commands.RestoreFull input to purge) built = absurd built

-- and so does one that calls no file
pub none_read : (command : Command) → CallsNoFile command → ReadsNoInput command
none_read (commands.PrintVtoc unit) none = tt {0}
none_read (commands.Release filter unit) none = tt {0}
none_read (commands.Consolidate filter unit) none = tt {0}
none_read (commands.Defrag unit index limit) none = tt {0}
none_read (commands.Copy filter unit to delete purge replace rename tolerate) none = tt {0}
none_read (commands.DumpDataset filter unit outs reset delete purge tolerate) none = absurd none
none_read (commands.DumpFull unit outs) none = absurd none
none_read (commands.RestoreDataset filter input to purge replace rename) none = absurd none
none_read (commands.RestoreFull input to purge) none = absurd none
