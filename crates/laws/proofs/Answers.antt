-- No second answer: two answers that meet one promise are the same, and so are two states of what was lent. Said of a function's
-- contract as it stands (`Learnt`, what a caller is told), never of a copy of it; every public function of every room cites it.
use mathlib.Core.Path.{◌≡◌, sym, ◌∙◌}

pub one_answer {ℓ} : {A : Type ℓ} {promised first second : A} → first ≡ promised → second ≡ promised → first ≡ second
one_answer p q = p ∙ sym q

-- what a contract tells, of the lifetimes, what was given, the result and what is left at the end
module _ {K : Type 0} {Given Result Left : K → Type 0} (told : (κs : K) → Given κs → Result κs → Left κs → Type 0) where
  -- whatever was given, it leaves one result
  abbrev pub OneResult : Type 0
  OneResult = (κs : K) (a : Given κs) (z z' : Result κs) (e e' : Left κs) → told κs a z e → told κs a z' e' → z ≡ z'

  -- or, of a result that is a reference, one value behind it
  abbrev pub OneSeen : {A : Type 0} → ((κs : K) → Result κs → A) → Type 0
  OneSeen seen = (κs : K) (a : Given κs) (z z' : Result κs) (e e' : Left κs) → told κs a z e → told κs a z' e' → seen κs z ≡ seen κs z'

  -- and one state of something that was lent
  abbrev pub OneLeft : {A : Type 0} → ((κs : K) → Left κs → A) → Type 0
  OneLeft left = (κs : K) (a : Given κs) (z z' : Result κs) (e e' : Left κs) → told κs a z e → told κs a z' e' → left κs e ≡ left κs e'
