-- The format of a DSCB by the tests for it.
use Rattle.std.proofs.Common.{◌≡◌, true, false, refl}
use Rattle.volume_model.specs.declared.format.Format.{Format}
use Rattle.volume_model.specs.declared.format.Format.TheVariants.{Broken, Free, F1, F3, F4, F5}
use Rattle.volume_model.specs.Dscbs.{is_f1, is_f3, is_f5}

pub f1_is : (f : Format) → is_f1 f ≡ true → f ≡ F1
f1_is Broken e = let q : false ≡ true = e in cc
f1_is Free e = let q : false ≡ true = e in cc
f1_is F1 e = refl
f1_is F3 e = let q : false ≡ true = e in cc
f1_is F4 e = let q : false ≡ true = e in cc
f1_is F5 e = let q : false ≡ true = e in cc

pub f3_is : (f : Format) → is_f3 f ≡ true → f ≡ F3
f3_is Broken e = let q : false ≡ true = e in cc
f3_is Free e = let q : false ≡ true = e in cc
f3_is F1 e = let q : false ≡ true = e in cc
f3_is F3 e = refl
f3_is F4 e = let q : false ≡ true = e in cc
f3_is F5 e = let q : false ≡ true = e in cc

pub f5_is : (f : Format) → is_f5 f ≡ true → f ≡ F5
f5_is Broken e = let q : false ≡ true = e in cc
f5_is Free e = let q : false ≡ true = e in cc
f5_is F1 e = let q : false ≡ true = e in cc
f5_is F3 e = let q : false ≡ true = e in cc
f5_is F4 e = let q : false ≡ true = e in cc
f5_is F5 e = refl
