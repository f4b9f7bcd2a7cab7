-- What pieces take from what is to come.
use Rattle.std.proofs.Common.{◌≡◌, ℕ, List, ◌++◌, Option, Some, None, sym, ap, subst, ◌∙◌, append_assoc}
use Rattle.std.proofs.lemmas.List.{append_cancel_left}
use Rattle.dasd_pool.specs.Stream.{Takes}
use Rattle.dump_fmt.specs.declared.piece.DumpHead.{DumpHead}
use Rattle.dump_fmt.specs.declared.piece.Piece.{Piece}
use Rattle.dump_fmt.specs.Front.{Front}
use Rattle.dump_fmt.specs.Text.{front_text, added_text}
use Rattle.dump_fmt.proofs.Fronts.{text_grows}
use Rattle.dump_read.specs.Reader.{ReaderView, IsReading, Gives, to_come}
use Rattle.dump_read.specs.Tape.{TapeSeen}

-- bytes that come behind others are next once those came
takes_next : (held old new : Option (List ℕ)) (bytes piece : List ℕ) → Takes held old bytes → Takes held new (bytes ++ piece) → Takes old new piece
takes_next None old new bytes piece first all = subst (λ (o : Option (List ℕ)). Takes o new piece) (sym first) all
takes_next (Some whole) old new bytes piece (left, there, is) (later, next, all) =
    subst (λ (o : Option (List ℕ)). Takes o new piece) (sym there) (later, next, append_cancel_left bytes left (piece ++ later) (sym is ∙ all ∙ append_assoc bytes piece later))

pub piece_taken : (old new : TapeSeen) (from next : ReaderView) (front : Front) (piece : Piece) → next.head ≡ from.head → new.held ≡ old.held → IsReading old from front → Gives new next front piece
    → Takes (to_come old from) (to_come new next) (added_text from.head front piece)
piece_taken old new from next front piece head held is (stands, adds, on) =
    let grows : front_text next.head stands ≡ front_text from.head front ++ added_text from.head front piece =
    text_grows next.head front piece stands adds on.is_front ∙ ap (λ (h : DumpHead). front_text h front ++ added_text h front piece) head in
    let all : Takes old.held (to_come new next) (front_text from.head front ++ added_text from.head front piece) =
    subst (λ (t : List ℕ). Takes old.held (to_come new next) t) grows (subst (λ (h : Option (List ℕ)). Takes h (to_come new next) (front_text next.head stands)) held on.read.taken) in
    takes_next old.held (to_come old from) (to_come new next) (front_text from.head front) (added_text from.head front piece) is.read.taken all
