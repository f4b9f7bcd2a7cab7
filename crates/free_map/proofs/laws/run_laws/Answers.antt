use Rattle.free_map.proofs.Apart.{same_list}
use Rattle.free_map.proofs.laws.run_laws.Goals as goal

pub returns-clause-one : goal.returns-clause-one
returns-clause-one c = λ set a b p q. same_list 0 0 a b p.apart q.apart (λ t. (λ i. (q.exact t).0 ((p.exact t).1 i), λ i. (p.exact t).0 ((q.exact t).1 i)))

pub returns-clause-same : goal.returns-clause-same
returns-clause-same c = λ a b p q h. same_list 0 0 a b p q h
