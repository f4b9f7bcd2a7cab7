-- Names of the code page, and of files, as they are printed.
use Rattle.std.specs.Prelude.{ℕ, nat_lt, List, [], ◌∷◌, take, map, Bool, ◌==◌, if◌then◌else◌, unwrap_or}
use Rattle.std.specs.List.{list_all}
use Rattle.dd_names.specs.declared.dd.DdName.{DdName}
use Rattle.vol_label.specs.CodePage.{ascii_of}

-- blanks and nothing else
abbrev pub is_blank : List ℕ → Bool
is_blank bytes = list_all (λ byte. byte == 0x40) bytes

-- the bytes without trailing blanks
abbrev pub trimmed : List ℕ → List ℕ
trimmed [] = []
trimmed (byte ∷ bytes) = if is_blank (byte ∷ bytes) then [] else byte ∷ trimmed bytes

-- a name in the code page as it is printed: a question mark for what the code page lacks
abbrev pub printed : List ℕ → List ℕ
printed bytes = map (λ byte. unwrap_or (ascii_of byte) 63) (trimmed bytes)

-- a DD name as it is printed: its characters, and a question mark for what is none
abbrev pub dd_text : DdName → List ℕ
dd_text name = map (λ byte. if nat_lt byte 128 then byte else 63) (take name.len name.text)
