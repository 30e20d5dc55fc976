-- How the code judges a head: its integers, then its reals. No paper's sentence is stated here; the public promises cite `record_b` and
-- `record_c` alone.
use Rattle.std.specs.Prelude.{List, ℕ}
use Rattle.number.specs.Real.{real}
use Rattle.number.specs.Integer.{integer}
use Rattle.field.specs.Field.{stretch, fault, fault_or, limits, posts_limits, ranged, real_at}
use Rattle.field.specs.declared.Fault.{Fault}
use Rattle.profile.specs.declared.record_b.Head.{Head}
use Rattle.profile.specs.RecordB.{datum_field, hundredths}

abbrev pub head_with : ℕ → List ℕ → Head
head_with posts block =
    record {
      posts = posts;
      x = real_at 25 block;
      y = real_at 49 block;
      datum = hundredths (real_at 73 block);
      least = real_at 97 block;
      greatest = real_at 121 block;
    }

abbrev pub reals_fault : List ℕ → Fault
reals_fault block =
    fault_or (real (stretch 25 24 block)) 25
    (fault_or (real (stretch 49 24 block)) 49
    (fault_or (datum_field (real (stretch 73 24 block))) 73
    (fault_or (real (stretch 97 24 block)) 97 (fault_or (real (stretch 121 24 block)) 121 (fault 0 0)))))

abbrev pub counts_fault : ℕ → ℕ → List ℕ → Fault
counts_fault family number block =
    fault_or (ranged (limits 1 1 1 9) (integer (stretch 1 6 block))) 1
    (fault_or (ranged (limits number number 1 9) (integer (stretch 7 6 block))) 7
    (fault_or (ranged (posts_limits family) (integer (stretch 13 6 block))) 13
    (fault_or (ranged (limits 1 1 1 9) (integer (stretch 19 6 block))) 19 (fault 0 0))))
