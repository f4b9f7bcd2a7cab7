-- What the words of a run ask for, by kind.
use Rattle.std.proofs.Common.{ℕ, List, []}
use Rattle.std.specs.Prelude.{Option, None}
use Rattle.vol_label.specs.declared.serial.Serial.{Serial}
use Rattle.run_words.specs.declared.run.Run.{Run}
use Rattle.run_words.specs.declared.run.Run.TheVariants.{Jobs, Format, Make}

abbrev pub kind_in : Run → ℕ
kind_in (Jobs volumes journal sysin path outs ins) = 0
kind_in (Format volumes journal room) = 1
kind_in (Make number) = 2

abbrev pub path_in : Run → Option (List ℕ)
path_in (Jobs volumes journal sysin path outs ins) = path
path_in (Format volumes journal room) = None
path_in (Make number) = None

abbrev pub volumes_in : Run → List (Serial × List ℕ)
volumes_in (Jobs volumes journal sysin path outs ins) = volumes
volumes_in (Format volumes journal room) = volumes
volumes_in (Make number) = []

abbrev pub room_in : Run → ℕ
room_in (Jobs volumes journal sysin path outs ins) = 0
room_in (Format volumes journal room) = room
room_in (Make number) = 0
