use Rattle.std.proofs.Common.{ℕ, ◌∙◌, List, [], Vec, sym, ap}
use Rattle.std.specs.Prelude.{slice_set}
use Rattle.std.specs.declared.alloc.Global.{Global}
use Rattle.std.proofs.lemmas.List.{map-set}
use Rattle.dasd_pool.specs.Calls.{items_of, written}
use Rattle.dasd_pool.proofs.Texts.{map_read}
use Rattle.dasd_pool.proofs.memory.put.Goals as goal

pub returns : goal.returns
returns c =
    map-set (λ (v : Vec ℕ Global). v.items) c.args.texts.now.items c.args.unit c.put_text.new.text
    ∙ ap (λ (l : List ℕ). slice_set (items_of c.args.texts.now.items) c.args.unit l)
    (c.put_text.ensures ∙ ap (λ (l : List ℕ). written l c.args.at c.args.bytes.now) (sym (map_read (λ (v : Vec ℕ Global). v.items) c.args.texts.now.items c.args.unit c.index_mut.result.now [] c.requires.unit c.index_mut.ensures.value)))
