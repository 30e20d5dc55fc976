-- A block that is not block 0: the column that has it, and its block in that profile.
use Rattle.send.proofs.AnswerLaws.{found_before, found-asked, found-block}
use Rattle.send.proofs.write_later.Goals as goal

pub overflow_sub-number : goal.overflow_sub-number
overflow_sub-number c = found_before c.requires c.find_column-found.result c.find_column-found.ensures

pub write_profile_block-requires : goal.write_profile_block-requires
write_profile_block-requires c = found-asked c.requires c.find_column-found.result c.find_column-found.ensures

pub returns : goal.returns
returns c =
    found-block c.requires c.find_column-found.result c.find_column-found.ensures c.write_profile_block.new.block
    c.write_profile_block.ensures
