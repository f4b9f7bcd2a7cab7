-- What a data set holds, whatever device it is on.
use Rattle.std.specs.Prelude.{◌≡◌, ◌≤◌, Bool, List, [], ◌∷◌, ◌++◌, length, map, All, MatchBool}
use Rattle.std.specs.List.{flat_map}
use Rattle.ckd_image.specs.declared.track.Rec.{Rec}
use Rattle.ckd_image.specs.declared.track.Track.{Track}
use Rattle.org_reloc.specs.declared.block.Block.{Block}

-- a record without its number
abbrev pub block_of : Rec → Block
block_of rec = record { key = rec.key; body = rec.body }

-- neither key nor body
abbrev pub end_of_file : Block
end_of_file = record { key = []; body = [] }

abbrev pub IsEnd : Rec → Type 0
IsEnd rec = block_of rec ≡ end_of_file

-- what a count field can say of key and body
pub record IsBlock (block : Block) : Type 0 where
  pub key_fits : length block.key ≤ 255
  pub body_fits : length block.body ≤ 65535

-- the records of tracks, in their order
abbrev pub records_of : List Track → List Rec
records_of tracks = flat_map (λ track. track.recs) tracks

abbrev pub HasNoEnd : List Rec → Type 0
HasNoEnd recs = All (λ rec. ¬ IsEnd rec) recs

-- the records up to the first end of file hold these blocks
pub record HoldUpToEnd (recs : List Rec) (blocks : List Block) : Type 0 where
  pub run : List Rec
  pub end : Rec
  pub behind : List Rec
  pub spelled : recs ≡ run ++ end ∷ behind
  pub before : HasNoEnd run
  pub ends : IsEnd end
  pub blocks_are : blocks ≡ map block_of run

-- the records up to the first end of file hold these blocks, or all of them do where there is none
abbrev pub Hold : List Rec → List Block → Bool → Type 0
Hold recs blocks ended = MatchBool ended (HoldUpToEnd recs blocks) (HasNoEnd recs × (blocks ≡ map block_of recs))

-- the blocks that are new are those that the records hold
pub record TakesOver (recs : List Rec) (old new : List Block) (ended : Bool) : Type 0 where
  pub taken : List Block
  pub new_is : new ≡ old ++ taken
  pub held : Hold recs taken ended
