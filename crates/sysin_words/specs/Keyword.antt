-- The spellings of keywords.
use Rattle.std.specs.Prelude.{ℕ, if◌then◌else◌, List, Option, Some, None, codes}
use Rattle.std.specs.Str.{bytes_eq}
use Rattle.sysin_words.specs.declared.keyword.Keyword.{Keyword}
use Rattle.sysin_words.specs.declared.keyword.Keyword.TheVariants as keywords

-- other keywords
abbrev pub option_of : List ℕ → Option Keyword
option_of word =
    if bytes_eq word (codes "FRAGMENTATIONINDEX") then Some keywords.Index
    else (if bytes_eq word (codes "FRAGI") then Some keywords.Index
    else (if bytes_eq word (codes "MOVELIMIT") then Some keywords.Limit
    else (if bytes_eq word (codes "TOLERANCE") then Some keywords.Tolerate
    else (if bytes_eq word (codes "TOL") then Some keywords.Tolerate
    else (if bytes_eq word (codes "WAIT") then Some keywords.Wait
    else (if bytes_eq word (codes "OPTIMIZE") then Some keywords.Optimize
    else None))))))

-- what becomes of them
abbrev pub change_of : List ℕ → Option Keyword
change_of word =
    if bytes_eq word (codes "DELETE") then Some keywords.Delete
    else (if bytes_eq word (codes "DEL") then Some keywords.Delete
    else (if bytes_eq word (codes "PURGE") then Some keywords.Purge
    else (if bytes_eq word (codes "RESET") then Some keywords.Reset
    else (if bytes_eq word (codes "REPLACEUNCONDITIONAL") then Some keywords.Replace
    else (if bytes_eq word (codes "REPU") then Some keywords.Replace
    else (if bytes_eq word (codes "RENAMEUNCONDITIONAL") then Some keywords.Rename
    else (if bytes_eq word (codes "RENAMEU") then Some keywords.Rename
    else option_of word)))))))

-- which data sets it takes
abbrev pub filter_of : List ℕ → Option Keyword
filter_of word =
    if bytes_eq word (codes "DATASET") then Some keywords.Dataset
    else (if bytes_eq word (codes "DS") then Some keywords.Dataset
    else (if bytes_eq word (codes "INCLUDE") then Some keywords.Include
    else (if bytes_eq word (codes "INC") then Some keywords.Include
    else (if bytes_eq word (codes "EXCLUDE") then Some keywords.Exclude
    else (if bytes_eq word (codes "EXC") then Some keywords.Exclude
    else (if bytes_eq word (codes "BY") then Some keywords.By
    else change_of word))))))

-- keywords that say on what a command works, and all others
abbrev pub keyword_of : List ℕ → Option Keyword
keyword_of word =
    if bytes_eq word (codes "VTOC") then Some keywords.Vtoc
    else (if bytes_eq word (codes "FULL") then Some keywords.Full
    else (if bytes_eq word (codes "INDDNAME") then Some keywords.Input
    else (if bytes_eq word (codes "INDD") then Some keywords.Input
    else (if bytes_eq word (codes "DDNAME") then Some keywords.Input
    else (if bytes_eq word (codes "LOGINDDNAME") then Some keywords.LogicalInput
    else (if bytes_eq word (codes "OUTDDNAME") then Some keywords.Output
    else (if bytes_eq word (codes "OUTDD") then Some keywords.Output
    else filter_of word)))))))
