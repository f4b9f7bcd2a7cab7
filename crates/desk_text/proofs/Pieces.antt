-- Texts that are put together piece by piece.
use Rattle.std.proofs.Common.{◌≡◌, ℕ, List, [], ◌++◌, ap, sym, ◌∙◌, append_assoc}
use Rattle.std.proofs.lemmas.List.{append-nil}
use Rattle.desk_text.specs.Pieces.{Adds}

pub more : {a b c x y : List ℕ} → Adds a b x → Adds b c y → Adds a c (x ++ y)
more {a} {b} {c} {x} {y} p q = record { is = q.is ∙ ap (λ (l : List ℕ). l ++ y) p.is ∙ append_assoc a x y }

pub from_none : {a b x : List ℕ} → Adds a b x → a ≡ [] → b ≡ x
from_none {a} {b} {x} p none = p.is ∙ ap (λ (l : List ℕ). l ++ x) none

-- the same of a piece that is equal
pub adds_as : {a b x : List ℕ} (y : List ℕ) → Adds a b x → x ≡ y → Adds a b y
adds_as {a} {b} {x} y p same = record { is = p.is ∙ ap (λ (l : List ℕ). a ++ l) same }

pub adds_nothing : (a : List ℕ) → Adds a a []
adds_nothing a = record { is = sym (append-nil a) }
