-- Equal, field by field, to the header of zeros.
use Rattle.std.proofs.Common.{rules, ◌≡◌, ◌∙◌}
use Rattle.heading.specs.Heading.{fresh_header}
use Rattle.heading.proofs.Fresh.{joined, equals-zero}
use Rattle.heading.proofs.zero_header.Goals as goal

pub returns : goal.returns
returns c =
    let zeros : c.default.result ≡ fresh_header = search rules in
    c.eq.ensures ∙ rw zeros (simp (joined, equals-zero))
