use Rattle.std.proofs.Common.{ℕ, refl, sym, subst, arith, inl, inr, slice_index}
use Rattle.std.proofs.lemmas.Bool.{cases_eq}
use Rattle.volume_model.specs.Pinned.{IsNameOf}
use Rattle.vtoc_core.specs.Named.{IsByteOf}
use Rattle.vtoc_core.proofs.names.is_named.Goals as goal

pub loop-place-preserved : goal.loop-place-preserved
loop-place-preserved c = λ k less. elim (cases_eq k c.loop-place.place) [
  | inl same ↦ subst (λ (n : ℕ). IsByteOf c.args.name n (slice_index c.args.bytes.now n)) (sym same) (c.if-not-is_byte_of.ensures.0 refl)
  | inr apart ↦ c.loop-place.invariant k (omega (arith, less, apart))
]

pub returns : goal.returns
returns c = (λ yes. named, λ is. refl)
  where
    named : IsNameOf c.args.name c.args.bytes.now
    named = record {
      long = c.told-bytes;
      characters = λ k less. (c.loop-place.invariant k (omega (arith, less, c.requires, c.loop-place-test.false))).character less;
      blanks = λ k from to. (c.loop-place.invariant k (omega (arith, to, c.loop-place-test.false))).blank from;
    }
