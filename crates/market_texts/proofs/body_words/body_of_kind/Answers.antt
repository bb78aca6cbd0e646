use Rattle.std.proofs.Common.{sym}
use Rattle.market_texts.proofs.body_words.body_of_kind.Goals as goal

-- the kind is none of the twelve
pub returns-else-eq-12 : goal.returns-else-eq-12
returns-else-eq-12 c =
    rw (
      sym (rw c.as_slice.ensures at c.if-eq.ensures),
      sym (rw c.as_slice-else-eq.ensures at c.if-eq-2.ensures),
      sym (rw c.as_slice-else-eq-2.ensures at c.if-eq-3.ensures),
      sym (rw c.as_slice-else-eq-3.ensures at c.if-eq-4.ensures),
      sym (rw c.as_slice-else-eq-4.ensures at c.if-eq-5.ensures),
      sym (rw c.as_slice-else-eq-5.ensures at c.if-eq-6.ensures),
      sym (rw c.as_slice-else-eq-6.ensures at c.if-eq-7.ensures),
      sym (rw c.as_slice-else-eq-7.ensures at c.if-eq-8.ensures),
      sym (rw c.as_slice-else-eq-8.ensures at c.if-eq-9.ensures),
      sym (rw c.as_slice-else-eq-9.ensures at c.if-eq-10.ensures),
      sym (rw c.as_slice-else-eq-10.ensures at c.if-eq-11.ensures),
      sym (rw c.as_slice-else-eq-11.ensures at c.if-eq-12.ensures),
    )
