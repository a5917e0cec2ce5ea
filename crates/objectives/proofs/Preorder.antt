-- At most as dear, of an objective that picks, is a total preorder.
use Rattle.sequences.specs.Values.{Ops, Lawful, Picks, AtMostAsDear, TotalPreorder}
use Rattle.std.proofs.Common.{arith}

-- of every lawful objective: u with w is (u with v) with w, which is u with (v with w)
pub dear_trans : {M : Type 0} (o : Ops M) → Lawful o → (u v w : M) → AtMostAsDear o u v → AtMostAsDear o v w → AtMostAsDear o u w
dear_trans o laws u v w uv vw = cc (laws.assoc u v w)

pub dear_preorder : {M : Type 0} (o : Ops M) → Lawful o → Picks o → TotalPreorder (AtMostAsDear o)
dear_preorder o laws picks =
    record {
      refl = λ v. grind (arith, picks v v);
      trans = dear_trans o laws;
      total = λ v w. grind (arith, picks v w, laws.comm v w);
    }
