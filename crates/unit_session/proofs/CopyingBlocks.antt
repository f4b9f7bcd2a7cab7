-- Which blocks copies write, and calls that write them one after another.
use Rattle.std.proofs.Common.{◌≡◌, ◌⊎◌, ◌&&◌, ◌||◌, ◌==◌, ◌∷◌, [], ℕ, List, Bool, true, false, Contains, refl, sym, ap, subst, ◌∙◌, inl, inr, arith}
use Rattle.std.specs.List.{list_any}
use Rattle.std.proofs.lemmas.Bool.{false≢true, ne_eqb}
use Rattle.std.proofs.lemmas.Bool.Decides.{eqb_tells}
use Rattle.dasd_pool.specs.Disk.{is_at}
use Rattle.dasd_pool.proofs.Moments.{runs_then, runs_start}
use Rattle.dasd_pool.specs.declared.pool.Pool.{Ghosts}
use Rattle.redo_core.specs.Stops.{JournalView}
use Rattle.vtoc_layout.proofs.Distinct.{first_or_later, in_none, any_nothing}
use Rattle.unit_session.specs.Copies.{OnlyWrites, is_among}

-- ---- blocks

any_there : (tracks : List ℕ) (b : ℕ) → Contains tracks b → list_any (λ track. track == b) tracks ≡ true
any_there [] b h = absurd (in_none b h)
any_there (t ∷ ts) b h = by (any_there ts b) (eqb_tells t b) (first_or_later t b ts h)
  where
    by : (Contains ts b → list_any (λ track. track == b) ts ≡ true) → ((t == b) ≡ true) × (t ≡ b) ⊎ ((t == b) ≡ false) × ¬ (t ≡ b) → (t ≡ b) ⊎ Contains ts b → list_any (λ track. track == b) (t ∷ ts) ≡ true
    by more (inl e) here = ap (λ (x : Bool). x || list_any (λ track. track == b) ts) e.0
    by more (inr e) (inl same) = absurd (e.1 same)
    by more (inr e) (inr later) = ap (λ (x : Bool). x || list_any (λ track. track == b) ts) e.0 ∙ more later

-- a block that isn't among the tracks of a unit
pub among_apart : (unit : ℕ) (tracks : List ℕ) (u b : ℕ) → ¬ ((u ≡ unit) × Contains tracks b) → is_among unit tracks u b ≡ false
among_apart unit tracks u b not = by (eqb_tells u unit)
  where
    by : ((u == unit) ≡ true) × (u ≡ unit) ⊎ ((u == unit) ≡ false) × ¬ (u ≡ unit) → is_among unit tracks u b ≡ false
    by (inl e) = ap (λ (x : Bool). x && list_any (λ track. track == b) tracks) e.0
        ∙ any_nothing (λ track. track == b) tracks (λ track there. ne_eqb track b (λ same. not (e.1, subst (Contains tracks) same there)))
    by (inr e) = ap (λ (x : Bool). x && list_any (λ track. track == b) tracks) e.0

pub not_among : (unit : ℕ) (tracks : List ℕ) (u b : ℕ) → is_among unit tracks u b ≡ false → ¬ ((u ≡ unit) × Contains tracks b)
not_among unit tracks u b apart there = by (eqb_tells u unit)
  where
    by : ((u == unit) ≡ true) × (u ≡ unit) ⊎ ((u == unit) ≡ false) × ¬ (u ≡ unit) → ⊥
    by (inl e) = false≢true (sym apart ∙ (ap (λ (x : Bool). x && list_any (λ track. track == b) tracks) e.0 ∙ any_there tracks b there.1))
    by (inr e) = e.1 there.0

pub among_within : (unit : ℕ) (few all : List ℕ) → ((b : ℕ) → Contains few b → Contains all b) → (u b : ℕ) → is_among unit all u b ≡ false → is_among unit few u b ≡ false
among_within unit few all within u b apart = among_apart unit few u b (λ there. not_among unit all u b apart (there.0, within b there.1))

-- one block, and another or one of those it is none of
pub at_apart : (unit track u b : ℕ) → ¬ ((u ≡ unit) × (b ≡ track)) → is_at unit track u b ≡ false
at_apart unit track u b not = by (eqb_tells u unit)
  where
    by : ((u == unit) ≡ true) × (u ≡ unit) ⊎ ((u == unit) ≡ false) × ¬ (u ≡ unit) → is_at unit track u b ≡ false
    by (inl e) = ap (λ (x : Bool). x && (b == track)) e.0 ∙ ne_eqb b track (λ same. not (e.1, same))
    by (inr e) = ap (λ (x : Bool). x && (b == track)) e.0

pub at_among : (unit : ℕ) (tracks : List ℕ) (track : ℕ) → Contains tracks track → (u b : ℕ) → is_among unit tracks u b ≡ false → is_at unit track u b ≡ false
at_among unit tracks track there u b apart =
    at_apart unit track u b (λ both. not_among unit tracks u b apart (both.0, subst (Contains tracks) (sym both.1) there))

-- ---- calls

module _ {P : Type 0} (pools : Ghosts P) where
  pub writes_none : (may : ℕ → ℕ → Bool) (old : JournalView P) → OnlyWrites pools may old old
  writes_none may old = record {
    shape = refl;
    later = omega arith;
    runs = λ told. runs_start may (pools.disk old.pool);
    status = record { room = refl; control = refl; fills = refl };
  }

  pub writes_then : (may first second : ℕ → ℕ → Bool) (old mid new : JournalView P) → ((u b : ℕ) → may u b ≡ false → first u b ≡ false) → ((u b : ℕ) → may u b ≡ false → second u b ≡ false)
      → OnlyWrites pools first old mid → OnlyWrites pools second mid new → OnlyWrites pools may old new
  writes_then may first second old mid new within_first within_second one next = record {
    shape = next.shape ∙ one.shape;
    later = omega (arith, one.later, next.later);
    runs = λ told. runs_then may first second (pools.disk old.pool) (pools.disk mid.pool) (pools.disk new.pool) within_first within_second (one.runs told) (next.runs told);
    status = record {
      room = next.status.room ∙ one.status.room;
      control = next.status.control ∙ one.status.control;
      fills = next.status.fills ∙ one.status.fills;
    };
  }
