-- The bodies of answers as JSON values. Their names are in byte order.
use Rattle.std.specs.Prelude.{ℕ, List, map, codes, Option, Some, None}
use Rattle.serde_json.specs.Data.{Data, string, number, array, object, unsigned, no_members, member}
use Rattle.serde_json.specs.View.{items_of}
use Rattle.desk_text.specs.declared.job.Job.{Job}
use Rattle.desk_text.specs.declared.job.UnitLine.{UnitLine}
use Rattle.desk_text.specs.declared.job.VolumeNumbers.{VolumeNumbers}

abbrev pub error_value : ℕ → Data
error_value status = object (member (codes "error") (number (unsigned status)) no_members)

abbrev pub busy_value : ℕ → Data
busy_value job = object (member (codes "job") (number (unsigned job)) no_members)

abbrev pub state_text : {T : Type 0} → Option T → List ℕ
state_text None = codes "QUEUED"
state_text (Some ended) = codes "ENDED"

-- a job as it stands in lists
abbrev pub line_value : Job → Data
line_value job = object (member (codes "key") (string job.key) (member (codes "number") (number (unsigned job.number)) (member (codes "state") (string (state_text job.ended)) no_members)))

abbrev pub ended_value : Job → ℕ → List ℕ → Data
ended_value job code print = object (member (codes "code") (number (unsigned code)) (member (codes "key") (string job.key) (member (codes "number") (number (unsigned job.number))
    (member (codes "print") (string print) (member (codes "state") (string (codes "ENDED")) no_members)))))

-- a job alone
abbrev pub value_by : Job → Option (ℕ × List ℕ) → Data
value_by job None = line_value job
value_by job (Some ended) = ended_value job ended.0 ended.1

abbrev pub job_value : Job → Data
job_value job = value_by job job.ended

abbrev pub jobs_value : List Job → Data
jobs_value jobs = object (member (codes "jobs") (array (items_of (map line_value jobs))) no_members)

abbrev pub online_value : List ℕ → VolumeNumbers → Data
online_value serial numbers = object (member (codes "free") (number (unsigned numbers.free)) (member (codes "index") (number (unsigned numbers.index))
    (member (codes "runs") (number (unsigned numbers.runs)) (member (codes "serial") (string serial) (member (codes "state") (string (codes "ONLINE"))
    (member (codes "usable") (number (unsigned numbers.usable)) no_members))))))

abbrev pub offline_value : List ℕ → Data
offline_value serial = object (member (codes "serial") (string serial) (member (codes "state") (string (codes "OFFLINE")) no_members))

-- a unit, by what is known of its volume
abbrev pub volume_by : List ℕ → Option VolumeNumbers → Data
volume_by serial (Some numbers) = online_value serial numbers
volume_by serial None = offline_value serial

abbrev pub volume_value : UnitLine → Data
volume_value line = volume_by line.serial line.online
