-- The sizes of the units of a pool over files.
use Rattle.std.proofs.Common.{◌≡◌, ℕ, zero, suc, ◌≤◌, List, [], ◌∷◌, refl, arith}
use Rattle.dasd_pool.specs.declared.file_unit.FileUnit.{FileUnit}
use Rattle.dasd_pool.specs.Calls.{size_in}
use Rattle.dasd_pool.specs.Files.{shape_of_files}

pub files_said : (units : List FileUnit) (u : ℕ) → (shape_of_files units).block_size u ≡ size_in ((shape_of_files units).head u)
files_said [] zero = refl
files_said [] (suc u) = refl
files_said (unit ∷ units) zero = unit.said
files_said (unit ∷ units) (suc u) = files_said units u

pub files_fit : (units : List FileUnit) (u : ℕ) → (shape_of_files units).block_size u ≤ 65536
files_fit [] zero = omega arith
files_fit [] (suc u) = omega arith
files_fit (unit ∷ units) zero = unit.fits
files_fit (unit ∷ units) (suc u) = files_fit units u
