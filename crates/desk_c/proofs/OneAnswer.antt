-- No second answer: for each public function its contract, as it stands, leaves one result and one state of what was lent.
use Rattle.laws.proofs.Answers.{one_answer, OneLeft, OneResult}
use Rattle.desk_c.proofs.dem_block_count.Reads as dem-block-count·told
use Rattle.desk_c.proofs.dem_columns.Reads as dem-columns·told
use Rattle.desk_c.proofs.dem_deliver.Reads as dem-deliver·told
use Rattle.desk_c.proofs.dem_deliver_run.Reads as dem-deliver-run·told
use Rattle.desk_c.proofs.dem_family_record_a_kind.Reads as dem-family-record-a-kind·told
use Rattle.desk_c.proofs.dem_family_record_a_byte.Reads as dem-family-record-a-byte·told
use Rattle.desk_c.proofs.dem_family_origin.Reads as dem-family-origin·told
use Rattle.desk_c.proofs.dem_family_columns.Reads as dem-family-columns·told
use Rattle.desk_c.proofs.dem_family_rows.Reads as dem-family-rows·told
use Rattle.desk_c.proofs.dem_integer_byte.Reads as dem-integer-byte·told
use Rattle.desk_c.proofs.dem_integer_kind.Reads as dem-integer-kind·told
use Rattle.desk_c.proofs.dem_integer_value.Reads as dem-integer-value·told
use Rattle.desk_c.proofs.dem_is_complete.Reads as dem-is-complete·told
use Rattle.desk_c.proofs.dem_is_sound.Reads as dem-is-sound·told
use Rattle.desk_c.proofs.dem_name_length.Reads as dem-name-length·told
use Rattle.desk_c.proofs.dem_open.Reads as dem-open·told
use Rattle.desk_c.proofs.dem_origin.Reads as dem-origin·told
use Rattle.desk_c.proofs.dem_real_byte.Reads as dem-real-byte·told
use Rattle.desk_c.proofs.dem_real_kind.Reads as dem-real-kind·told
use Rattle.desk_c.proofs.dem_real_value.Reads as dem-real-value·told
use Rattle.desk_c.proofs.dem_record_a_byte.Reads as dem-record-a-byte·told
use Rattle.desk_c.proofs.dem_record_a_kind.Reads as dem-record-a-kind·told
use Rattle.desk_c.proofs.dem_report.Reads as dem-report·told
use Rattle.desk_c.proofs.dem_rows.Reads as dem-rows·told
use Rattle.desk_c.proofs.dem_write_block.Reads as dem-write-block·told
use Rattle.desk_c.proofs.dem_write_sheet.Reads as dem-write-sheet·told

pub dem-integer-kind : OneResult dem-integer-kind·told.Learnt
dem-integer-kind κs a z z' e e' p q = one_answer p q

pub dem-integer-value : OneResult dem-integer-value·told.Learnt
dem-integer-value κs a z z' e e' p q = one_answer p q

pub dem-integer-byte : OneResult dem-integer-byte·told.Learnt
dem-integer-byte κs a z z' e e' p q = one_answer p q

pub dem-real-kind : OneResult dem-real-kind·told.Learnt
dem-real-kind κs a z z' e e' p q = one_answer p q

pub dem-real-value : OneResult dem-real-value·told.Learnt
dem-real-value κs a z z' e e' p q = one_answer p q

pub dem-real-byte : OneResult dem-real-byte·told.Learnt
dem-real-byte κs a z z' e e' p q = one_answer p q

pub dem-family-record-a-kind : OneResult dem-family-record-a-kind·told.Learnt
dem-family-record-a-kind κs a z z' e e' p q = one_answer p q

pub dem-record-a-kind : OneResult dem-record-a-kind·told.Learnt
dem-record-a-kind κs a z z' e e' p q = one_answer p q

pub dem-family-record-a-byte : OneResult dem-family-record-a-byte·told.Learnt
dem-family-record-a-byte κs a z z' e e' p q = one_answer p q

pub dem-record-a-byte : OneResult dem-record-a-byte·told.Learnt
dem-record-a-byte κs a z z' e e' p q = one_answer p q

pub dem-family-origin : OneResult dem-family-origin·told.Learnt
dem-family-origin κs a z z' e e' p q = one_answer p q

pub dem-origin : OneResult dem-origin·told.Learnt
dem-origin κs a z z' e e' p q = one_answer p q

pub dem-name-length : OneResult dem-name-length·told.Learnt
dem-name-length κs a z z' e e' p q = one_answer p q

pub dem-open : OneResult dem-open·told.Learnt
dem-open κs a z z' e e' p q = one_answer p.0 q.0

pub dem-open-session : OneLeft dem-open·told.Learnt (λ κs e. e.1.0.now)
dem-open-session κs a z z' e e' p q = one_answer p.1 q.1

pub dem-deliver : OneResult dem-deliver·told.Learnt
dem-deliver κs a z z' e e' p q = one_answer p.0 q.0

pub dem-deliver-session : OneLeft dem-deliver·told.Learnt (λ κs e. e.0.now)
dem-deliver-session κs a z z' e e' p q = one_answer p.1.0 q.1.0

pub dem-deliver-grid : OneLeft dem-deliver·told.Learnt (λ κs e. e.1.1.1.0.now)
dem-deliver-grid κs a z z' e e' p q = one_answer p.1.1.0 q.1.1.0

pub dem-deliver-answer : OneLeft dem-deliver·told.Learnt (λ κs e. e.1.1.1.1.0.now)
dem-deliver-answer κs a z z' e e' p q = one_answer p.1.1.1 q.1.1.1

pub dem-deliver-run : OneResult dem-deliver-run·told.Learnt
dem-deliver-run κs a z z' e e' p q = one_answer p.0 q.0

pub dem-deliver-run-session : OneLeft dem-deliver-run·told.Learnt (λ κs e. e.0.now)
dem-deliver-run-session κs a z z' e e' p q = one_answer p.1.0 q.1.0

pub dem-deliver-run-grid : OneLeft dem-deliver-run·told.Learnt (λ κs e. e.1.1.1.0.now)
dem-deliver-run-grid κs a z z' e e' p q = one_answer p.1.1.0 q.1.1.0

pub dem-deliver-run-answer : OneLeft dem-deliver-run·told.Learnt (λ κs e. e.1.1.1.1.0.now)
dem-deliver-run-answer κs a z z' e e' p q = one_answer p.1.1.1 q.1.1.1

pub dem-is-sound : OneResult dem-is-sound·told.Learnt
dem-is-sound κs a z z' e e' p q = one_answer p q

pub dem-is-complete : OneResult dem-is-complete·told.Learnt
dem-is-complete κs a z z' e e' p q = one_answer p q

pub dem-family-columns : OneResult dem-family-columns·told.Learnt
dem-family-columns κs a z z' e e' p q = one_answer p q

pub dem-columns : OneResult dem-columns·told.Learnt
dem-columns κs a z z' e e' p q = one_answer p q

pub dem-family-rows : OneResult dem-family-rows·told.Learnt
dem-family-rows κs a z z' e e' p q = one_answer p q

pub dem-rows : OneResult dem-rows·told.Learnt
dem-rows κs a z z' e e' p q = one_answer p q

pub dem-block-count : OneResult dem-block-count·told.Learnt
dem-block-count κs a z z' e e' p q = one_answer p q

pub dem-write-block : OneResult dem-write-block·told.Learnt
dem-write-block κs a z z' e e' p q = one_answer p.0 q.0

pub dem-write-block-block : OneLeft dem-write-block·told.Learnt (λ κs e. e.1.1.1.0.now)
dem-write-block-block κs a z z' e e' p q = one_answer p.1.0 q.1.0

pub dem-write-block-answer : OneLeft dem-write-block·told.Learnt (λ κs e. e.1.1.1.1.0.now)
dem-write-block-answer κs a z z' e e' p q = one_answer p.1.1 q.1.1

pub dem-write-sheet : OneResult dem-write-sheet·told.Learnt
dem-write-sheet κs a z z' e e' p q = one_answer p.0 q.0

pub dem-write-sheet-out : OneLeft dem-write-sheet·told.Learnt (λ κs e. e.1.1.0.now)
dem-write-sheet-out κs a z z' e e' p q = one_answer p.1.0 q.1.0

pub dem-write-sheet-answer : OneLeft dem-write-sheet·told.Learnt (λ κs e. e.1.1.1.0.now)
dem-write-sheet-answer κs a z z' e e' p q = one_answer p.1.1 q.1.1

pub dem-report : OneResult dem-report·told.Learnt
dem-report κs a z z' e e' p q = one_answer p.0 q.0

pub dem-report-out : OneLeft dem-report·told.Learnt (λ κs e. e.1.0.now)
dem-report-out κs a z z' e e' p q = one_answer p.1 q.1
