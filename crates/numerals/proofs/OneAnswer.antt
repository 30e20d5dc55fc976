-- No second answer: for each public function its contract, as it stands, leaves one result and one state of what was lent.
use Rattle.laws.proofs.Answers.{one_answer, OneLeft, OneResult}
use Rattle.numerals.proofs.count_of.Reads as count-of·told
use Rattle.numerals.proofs.is_below.Reads as is-below·told
use Rattle.numerals.proofs.is_short.Reads as is-short·told
use Rattle.numerals.proofs.put_byte.Reads as put-byte·told
use Rattle.numerals.proofs.put_digits.Reads as put-digits·told
use Rattle.numerals.proofs.put_minus.Reads as put-minus·told
use Rattle.numerals.proofs.put_number.Reads as put-number·told
use Rattle.numerals.proofs.put_word.Reads as put-word·told

pub count_of : OneResult count-of·told.Learnt
count_of κs a z z' e e' p q = one_answer p q

pub is_below : OneResult is-below·told.Learnt
is_below κs a z z' e e' p q = one_answer p q

pub is-short : OneResult is-short·told.Learnt
is-short κs a z z' e e' p q = one_answer p q

pub put_byte : OneResult put-byte·told.Learnt
put_byte κs a z z' e e' p q = one_answer p.end q.end

pub put-byte-text : OneLeft put-byte·told.Learnt (λ κs e. e.0.now)
put-byte-text κs a z z' e e' p q = one_answer p.bytes q.bytes

pub put_word : OneResult put-word·told.Learnt
put_word κs a z z' e e' p q = one_answer p.end q.end

pub put-word-text : OneLeft put-word·told.Learnt (λ κs e. e.0.now)
put-word-text κs a z z' e e' p q = one_answer p.bytes q.bytes

pub put-minus : OneResult put-minus·told.Learnt
put-minus κs a z z' e e' p q = one_answer p.end q.end

pub put-minus-text : OneLeft put-minus·told.Learnt (λ κs e. e.0.now)
put-minus-text κs a z z' e e' p q = one_answer p.bytes q.bytes

pub put-digits : OneResult put-digits·told.Learnt
put-digits κs a z z' e e' p q = one_answer p.end q.end

pub put-digits-text : OneLeft put-digits·told.Learnt (λ κs e. e.0.now)
put-digits-text κs a z z' e e' p q = one_answer p.bytes q.bytes

pub put-number : OneResult put-number·told.Learnt
put-number κs a z z' e e' p q = one_answer p.end q.end

pub put-number-text : OneLeft put-number·told.Learnt (λ κs e. e.0.now)
put-number-text κs a z z' e e' p q = one_answer p.bytes q.bytes
