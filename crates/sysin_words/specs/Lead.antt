-- With which words statements begin, and their parts end.
use Rattle.std.specs.Prelude.{ℕ, Bool, if◌then◌else◌, List, Option, Some, None, codes}
use Rattle.std.specs.Option.{option_map}
use Rattle.std.specs.Str.{bytes_eq}
use Rattle.sysin_words.specs.declared.lead.Verb.{Verb}
use Rattle.sysin_words.specs.declared.lead.Verb.TheVariants as verbs
use Rattle.sysin_words.specs.declared.lead.Lead.{Lead}
use Rattle.sysin_words.specs.declared.lead.Lead.TheVariants as leads

abbrev pub verb_of : List ℕ → Option Verb
verb_of word =
    if bytes_eq word (codes "PRINT") then Some verbs.Print
    else (if bytes_eq word (codes "RELEASE") then Some verbs.Release
    else (if bytes_eq word (codes "CONSOLIDATE") then Some verbs.Consolidate
    else (if bytes_eq word (codes "DEFRAG") then Some verbs.Defrag
    else (if bytes_eq word (codes "COPY") then Some verbs.Copy
    else (if bytes_eq word (codes "DUMP") then Some verbs.Dump
    else (if bytes_eq word (codes "RESTORE") then Some verbs.Restore
    else None))))))

-- with what a statement begins that this word begins
abbrev pub lead_of : List ℕ → Option Lead
lead_of word =
    if bytes_eq word (codes "SET") then Some leads.Set
    else (if bytes_eq word (codes "IF") then Some leads.If
    else (if bytes_eq word (codes "DO") then Some leads.Do
    else option_map leads.Command (verb_of word)))

abbrev pub is_then : List ℕ → Bool
is_then word = bytes_eq word (codes "THEN")

abbrev pub is_else : List ℕ → Bool
is_else word = bytes_eq word (codes "ELSE")

abbrev pub is_end : List ℕ → Bool
is_end word = bytes_eq word (codes "END")
