-- Lines that are written one after the other.
use Rattle.std.proofs.Common.{◌≡◌, ℕ, ◌+◌, ◌<◌, ◌≤◌, List, [], ◌∷◌, ◌++◌, take, drop, length, get_or, Option, sym, ap, subst, ◌∙◌, append_assoc, arith, length-append}
use Rattle.std.proofs.lemmas.Grind.{flat_map-append}
use Rattle.std.proofs.lemmas.List.{take_more, take-append-le, length-drop, append-nil}
use Rattle.dasd_pool.specs.Stream.{Appends, AppendsSome}
use Rattle.job_lines.specs.declared.message.Message.{Message}
use Rattle.job_lines.specs.Lines.{line}
use Rattle.job_script.specs.Runs.{lines_in}
use Rattle.run_lines.specs.Texts.{AppendsLess}
use Rattle.run_lines.proofs.Appending.{HasWritten, written_more, written_some, written_less}
use Rattle.dasd_pool.proofs.Streams.{appends_then}

-- the next piece of a text was written
pub written_piece : (old mid new : Option (List ℕ)) (text piece rest : List ℕ) → HasWritten old mid text (piece ++ rest) → Appends mid new piece → HasWritten old new text rest
written_piece old mid new text piece rest h p = record {
  done = h.done ++ piece;
  parts = h.parts ∙ sym (append_assoc h.done piece rest);
  appends = appends_then old mid new h.done piece h.appends p;
}

-- a front of it was
pub written_front : (old mid new : Option (List ℕ)) (text piece rest : List ℕ) → HasWritten old mid text (piece ++ rest) → AppendsSome mid new piece → AppendsSome old new text
written_front old mid new text piece rest h q =
    let P : List ℕ → Type 0 = λ some. Appends mid new some in
    let front : Appends mid new (take q.0 (piece ++ rest)) = subst P (sym (take-append-le q.0 piece rest q.1)) q.2 in
    written_some old new text (drop q.0 (piece ++ rest)) (written_more old mid new text (piece ++ rest) q.0 h front)

-- and not all of it was
pub written_front_less : (old mid new : Option (List ℕ)) (text piece rest : List ℕ) → HasWritten old mid text (piece ++ rest) → AppendsLess mid new piece → AppendsLess old new text
written_front_less old mid new text piece rest h (count, less, taken) =
    let front : Appends mid new (take count (piece ++ rest)) = subst (λ (some : List ℕ). Appends mid new some) (sym (take-append-le count piece rest (omega (arith, less)))) taken in
    written_less old new text (drop count (piece ++ rest)) (written_more old mid new text (piece ++ rest) count h front)
    (omega (arith, less, length-append piece rest, length-drop count (piece ++ rest)))

-- from a message on, its line comes first
pub next_line : (statement : ℕ) (said : List Message) (place : ℕ) (default : Message) → place < length said
    → lines_in statement (take (place + 1) said) ≡ lines_in statement (take place said) ++ line statement (get_or said place default)
next_line statement said place default lt =
    ap (λ (some : List Message). lines_in statement some) (take_more said place default lt)
    ∙ flat_map-append (line statement) (take place said) (get_or said place default ∷ [])
    ∙ ap (λ (text : List ℕ). lines_in statement (take place said) ++ text) (append-nil (line statement (get_or said place default)))

-- the lines of these messages are left
abbrev pub HasLines : Option (List ℕ) → Option (List ℕ) → ℕ → List Message → List Message → Type 0
HasLines old new statement said rest = HasWritten old new (lines_in statement said) (lines_in statement rest)

-- of what is left some come first
pub parted : (old new : Option (List ℕ)) (statement : ℕ) (said rest now later : List Message) → rest ≡ now ++ later → HasLines old new statement said rest
    → HasWritten old new (lines_in statement said) (lines_in statement now ++ lines_in statement later)
parted old new statement said rest now later parts h =
    let P : List ℕ → Type 0 = λ left. HasWritten old new (lines_in statement said) left in
    subst P (ap (λ (left : List Message). lines_in statement left) parts ∙ flat_map-append (line statement) now later) h
