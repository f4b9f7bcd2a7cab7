use Rattle.std.proofs.Common.{ℕ, ◌≡◌, ◌≤◌, ◌+◌, List, refl, sym, ap, ◌∙◌, subst, arith}
use Rattle.dasd_pool.specs.Disk.{Image, Shape, State, IsSynced, none}
use Rattle.dasd_pool.proofs.Moments.{runs_then}
use Rattle.vol_label.specs.declared.serial.Serial.{Serial}
use Rattle.redo_core.specs.Format.{wide}
use Rattle.redo_core.specs.Reading.{journal_of, overlay, fills_of, Reading, Reads}
use Rattle.redo_core.specs.Steps.{HasTargets}
use Rattle.redo_core.proofs.Openings.{targets_there, idle_reads}
use Rattle.redo_core.proofs.Refusals.{open_at, who_open, who_at, labels_at, may_at}
use Rattle.redo_core.proofs.opening.look.Goals as goal

pub returns-in-Err-clause-refused : goal.returns-in-Err-clause-refused
returns-in-Err-clause-refused g c = λ told.
    let shape = g.P.Pool.shape c.args.pool.now in
    let contents = (g.P.Pool.disk c.args.pool.now).state.contents in
    let s1 = g.P.Pool.shape c.sync.new.self in
    let d1 = (g.P.Pool.disk c.sync.new.self).state in
    let same : d1.contents ≡ contents = λ i u b. (c.sync.ensures.runs told).touches.contents u b refl i in
    open_at shape s1 contents d1.contents c.args.names.now c.in-Err.fault c.sync.ensures.shape same (c.in-Err.ensures.refused told c.args.names.now)

pub returns-in-Err-check_who-clause-refused : goal.returns-in-Err-check_who-clause-refused
returns-in-Err-check_who-clause-refused g c = λ told.
    let shape = g.P.Pool.shape c.args.pool.now in
    let contents = (g.P.Pool.disk c.args.pool.now).state.contents in
    let s1 = g.P.Pool.shape c.sync.new.self in
    let d1 = (g.P.Pool.disk c.sync.new.self).state in
    let same : d1.contents ≡ contents = λ i u b. (c.sync.ensures.runs told).touches.contents u b refl i in
    let unit : journal_of s1 ≡ c.args.journal = omega (arith, c.requires.last, ap (λ (s : Shape). s.units) c.sync.ensures.shape) in
    let f = c.in-Ok.found in
    let e = c.in-Ok.ensures in
    let list = f.targets.items in
    let long : 4 + f.room ≤ s1.blocks (journal_of s1) = subst (λ (j : ℕ). 4 + f.room ≤ s1.blocks j) (sym unit) e.long in
    let reading : Reading = record { volumes = d1.contents; names = f.names.items; room = f.room; control = f.control; fills = fills_of f.fills } in
    open_at shape s1 contents d1.contents c.args.names.now c.in-Err-check_who.fault c.sync.ensures.shape same
    (who_open s1 d1.contents c.args.names.now reading (e.idle told) long c.in-Err-check_who.fault
    (who_at s1 (g.P.Pool.shape c.find_idle.new.pool) d1 (g.P.Pool.disk c.find_idle.new.pool).state c.args.journal list f.names.items c.args.names.now c.in-Err-check_who.fault e.looks.shape (e.looks.same told) unit
    (targets_there s1 d1.contents f.room list long e.few (e.targets told)) (c.in-Err-check_who.ensures.refused told)))

pub returns-in-Ok-check_who-clause-reads : goal.returns-in-Ok-check_who-clause-reads
returns-in-Ok-check_who-clause-reads g c = λ told.
    let shape = g.P.Pool.shape c.args.pool.now in
    let contents = (g.P.Pool.disk c.args.pool.now).state.contents in
    let s1 = g.P.Pool.shape c.sync.new.self in
    let d1 = (g.P.Pool.disk c.sync.new.self).state in
    let same : d1.contents ≡ contents = λ i u b. (c.sync.ensures.runs told).touches.contents u b refl i in
    let unit : journal_of s1 ≡ c.args.journal = omega (arith, c.requires.last, ap (λ (s : Shape). s.units) c.sync.ensures.shape) in
    let f = c.in-Ok.found in
    let e = c.in-Ok.ensures in
    let list = f.targets.items in
    let long : 4 + f.room ≤ s1.blocks (journal_of s1) = subst (λ (j : ℕ). 4 + f.room ≤ s1.blocks j) (sym unit) e.long in
    let reading : Reading = record { volumes = d1.contents; names = f.names.items; room = f.room; control = f.control; fills = fills_of f.fills } in
    let reads = idle_reads s1 d1.contents f.room list long e.few (e.targets told) reading refl (e.idle told).obeys in
    let named = subst (λ (l : List Serial). Reads s1 d1.contents (record { volumes = overlay s1.block_size (journal_of s1) d1.contents; names = l; room = f.room; control = f.control; fills = fills_of f.fills }))
    c.in-Ok-check_who.ensures.names reads in
    subst (λ (x : Image). Reads shape x (record { volumes = overlay shape.block_size (journal_of shape) x; names = c.args.names.now; room = f.room; control = f.control; fills = fills_of f.fills })) same
    (subst (λ (s : Shape). Reads s d1.contents (record { volumes = overlay s.block_size (journal_of s) d1.contents; names = c.args.names.now; room = f.room; control = f.control; fills = fills_of f.fills })) c.sync.ensures.shape named)

pub returns-in-Ok-check_who-clause-targets : goal.returns-in-Ok-check_who-clause-targets
returns-in-Ok-check_who-clause-targets g c = λ told.
    let shape = g.P.Pool.shape c.args.pool.now in
    let contents = (g.P.Pool.disk c.args.pool.now).state.contents in
    let s1 = g.P.Pool.shape c.sync.new.self in
    let d1 = (g.P.Pool.disk c.sync.new.self).state in
    let same : d1.contents ≡ contents = λ i u b. (c.sync.ensures.runs told).touches.contents u b refl i in
    let unit : journal_of s1 ≡ c.args.journal = omega (arith, c.requires.last, ap (λ (s : Shape). s.units) c.sync.ensures.shape) in
    let f = c.in-Ok.found in
    let e = c.in-Ok.ensures in
    let list = f.targets.items in
    let long : 4 + f.room ≤ s1.blocks (journal_of s1) = subst (λ (j : ℕ). 4 + f.room ≤ s1.blocks j) (sym unit) e.long in
    let reading : Reading = record { volumes = d1.contents; names = f.names.items; room = f.room; control = f.control; fills = fills_of f.fills } in
    subst (λ (x : Image). HasTargets (journal_of shape) x list) same
    (subst (λ (s : Shape). HasTargets (journal_of s) d1.contents list) c.sync.ensures.shape (targets_there s1 d1.contents f.room list long e.few (e.targets told)))

pub returns-in-Ok-check_who-clause-journal : goal.returns-in-Ok-check_who-clause-journal
returns-in-Ok-check_who-clause-journal g c =
    let s1 = g.P.Pool.shape c.sync.new.self in
    let unit : journal_of s1 ≡ c.args.journal = omega (arith, c.requires.last, ap (λ (s : Shape). s.units) c.sync.ensures.shape) in
    let wide1 : s1.block_size c.args.journal ≡ wide = subst (λ (j : ℕ). s1.block_size j ≡ wide) unit c.in-Ok.ensures.head.size in
    record {
      last = c.requires.last;
      volumes = c.requires.few;
      width = ap (λ (s : Shape). s.block_size c.args.journal) (sym c.sync.ensures.shape) ∙ wide1;
      blocks = subst (λ (s : Shape). 4 + c.in-Ok.found.room ≤ s.blocks c.args.journal) c.sync.ensures.shape c.in-Ok.ensures.long;
      few = c.in-Ok.ensures.most;
    }

pub returns-in-Ok-check_who-clause-runs : goal.returns-in-Ok-check_who-clause-runs
returns-in-Ok-check_who-clause-runs g c = λ told.
    let old = g.P.Pool.disk c.args.pool.now in
    let mid = g.P.Pool.disk c.find_idle.new.pool in
    runs_then none none none old mid (g.P.Pool.disk c.check_who.new.pool) (λ u b apart. refl) (λ u b apart. refl)
    (runs_then none none none old (g.P.Pool.disk c.sync.new.self) mid (λ u b apart. refl) (λ u b apart. refl) (c.sync.ensures.runs told) (c.find_idle.ensures.looks.runs told)) (c.check_who.ensures.looks.runs told)

pub returns-in-Err-check_who-clause-runs : goal.returns-in-Err-check_who-clause-runs
returns-in-Err-check_who-clause-runs g c = λ told.
    let old = g.P.Pool.disk c.args.pool.now in
    let mid = g.P.Pool.disk c.find_idle.new.pool in
    runs_then none none none old mid (g.P.Pool.disk c.check_who.new.pool) (λ u b apart. refl) (λ u b apart. refl)
    (runs_then none none none old (g.P.Pool.disk c.sync.new.self) mid (λ u b apart. refl) (λ u b apart. refl) (c.sync.ensures.runs told) (c.find_idle.ensures.looks.runs told)) (c.check_who.ensures.looks.runs told)

pub returns-in-Ok-check_who-clause-synced : goal.returns-in-Ok-check_who-clause-synced
returns-in-Ok-check_who-clause-synced g c = λ told.
    subst (λ (s : State). IsSynced s) (sym (c.check_who.ensures.looks.same told ∙ c.find_idle.ensures.looks.same told)) (c.in_ok-sync.ensures.synced told)

pub check_who-requires-clause-width : goal.check_who-requires-clause-width
check_who-requires-clause-width g c =
    let s1 = g.P.Pool.shape c.sync.new.self in
    let unit : journal_of s1 ≡ c.args.journal = omega (arith, c.requires.last, ap (λ (s : Shape). s.units) c.sync.ensures.shape) in
    let wide1 : s1.block_size c.args.journal ≡ wide = subst (λ (j : ℕ). s1.block_size j ≡ wide) unit c.in-Ok.ensures.head.size in
    ap (λ (s : Shape). s.block_size c.args.journal) c.in-Ok.ensures.looks.shape ∙ wide1

pub returns-in-Ok-check_who-clause-allowed : goal.returns-in-Ok-check_who-clause-allowed
returns-in-Ok-check_who-clause-allowed g c = λ told.
    let shape = g.P.Pool.shape c.args.pool.now in
    let contents = (g.P.Pool.disk c.args.pool.now).state.contents in
    let s1 = g.P.Pool.shape c.sync.new.self in
    let d1 = (g.P.Pool.disk c.sync.new.self).state in
    let same : d1.contents ≡ contents = λ i u b. (c.sync.ensures.runs told).touches.contents u b refl i in
    let unit : journal_of s1 ≡ c.args.journal = omega (arith, c.requires.last, ap (λ (s : Shape). s.units) c.sync.ensures.shape) in
    let f = c.in-Ok.found in
    let e = c.in-Ok.ensures in
    let list = f.targets.items in
    let long : 4 + f.room ≤ s1.blocks (journal_of s1) = subst (λ (j : ℕ). 4 + f.room ≤ s1.blocks j) (sym unit) e.long in
    may_at shape s1 contents d1.contents c.args.names.now c.sync.ensures.shape same (record {
      reading = record { volumes = d1.contents; names = f.names.items; room = f.room; control = f.control; fills = fills_of f.fills };
      idle = e.idle told;
      long = long;
      names_are = c.in-Ok-check_who.ensures.names;
      labels = labels_at s1 (g.P.Pool.shape c.find_idle.new.pool) d1 (g.P.Pool.disk c.find_idle.new.pool).state c.args.journal list c.args.names.now e.looks.shape (e.looks.same told) unit
          (targets_there s1 d1.contents f.room list long e.few (e.targets told)) (c.in-Ok-check_who.ensures.labels told);
    })
