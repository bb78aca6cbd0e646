-- Where the outstanding events of a link were made, and with which numbers (out-at); the first of them has the smallest clock
-- (first-oldest); and what was made on the link past what was taken is outstanding (made-out).
use Rattle.std.proofs.Common.{◌≡◌, ◌+◌, ◌<◌, ◌≤◌, List, [], ◌∷◌, ◌++◌, length, ap, sym, ◌∙◌, subst, append_assoc, length-append, arith}
use Rattle.std.specs.Prelude.{drop}
use Rattle.std.specs.List.{AllByRecursion}
use Rattle.std.proofs.Math.Seq.{drop-append_seam}
use Rattle.market_events.specs.declared.events.Entry.{Entry}
use Rattle.market_events.specs.declared.events.Event.{Event}
use Rattle.market_events.specs.declared.events.What.TheVariants.{Made}
use Rattle.market_events.specs.declared.links.Link.{Link}
use Rattle.market_events.specs.Links.{IsLink, sender_of, receiver_of}
use Rattle.market_events.proofs.Values.Offers.{same_link-true}
use Rattle.market_history.specs.Histories.{Histories, journal_at}
use Rattle.market_history.specs.Lawful.{IsLawful}
use Rattle.market_history.specs.Outstanding.{outstanding}
use Rattle.market_history.specs.Sent.{event_made_on, sent, got, IsNumbered}
use Rattle.market_history.proofs.SentLaws.{IsNumbered-at}
use Rattle.market_laws.specs.Cuts.{entry_with, StandsIn, MadeAt}
use Rattle.market_laws.proofs.Growth.Members.{all-by, gathered-at}
use Rattle.market_laws.proofs.Clocks.Rising.{within-earlier, within_stands}
use Rattle.market_laws.proofs.Origins.Places.{made_stands, made_of, made_clock}
use Rattle.market_laws.proofs.Origins.Senders.{sent-split}
use Rattle.market_laws.proofs.Bounds.LinkEnds.{sender-small}
use Rattle.market_laws.proofs.Growth.Made.{made_on-is}
use Rattle.market_laws.proofs.Growth.Takers.{StandsAt, stands-due}

-- what the receiver took on the link
abbrev pub came : Histories → Link → List Event
came h link = got link (journal_at h (receiver_of link))

-- an outstanding event of the link, after these
pub record OutAt (h : Histories) (link : Link) (front : List Event) (event : Event) : Type 0 where
  pub made : MadeAt h (sender_of link) event
  pub on : event.link ≡ link
  pub number : event.number ≡ length (came h link) + length front + 1
  pub after : sent link made.before ≡ came h link ++ front

-- past its beginning a list goes on as another one
suffix_place : {A : Type 0} (us : List A) (x : A) (vs front rest : List A) → front ++ rest ≡ us ++ x ∷ vs → length front ≤ length us → (ws : List A) × (rest ≡ ws ++ x ∷ vs)
suffix_place us x vs [] rest e le = (us, e)
suffix_place [] x vs (f ∷ front) rest e le = absurd (omega (arith, le))
suffix_place (u ∷ us) x vs (f ∷ front) rest e le =
    let more : front ++ rest ≡ us ++ x ∷ vs = cc in
    suffix_place us x vs front rest more (omega (arith, le))

module _ (h : Histories) (lawful : IsLawful h) (link : Link) (on : IsLink link) where
  -- what was made on a link: what was taken, and then what is outstanding
  pub sent-parts : sent link (journal_at h (sender_of link)) ≡ came h link ++ outstanding h link
  sent-parts =
      let matched = lawful.matched link on in
      let rest : outstanding h link ≡ matched.0 = ap (drop (length (came h link))) matched.1 ∙ drop-append_seam (came h link) matched.0 in
      matched.1 ∙ ap (λ l. came h link ++ l) (sym rest)

  pub numbered : IsNumbered (sent link (journal_at h (sender_of link)))
  numbered = (lawful.lawful (sender_of link) (sender-small link on)).sent_numbered link

  -- where an outstanding event was made
  pub out-at : (front : List Event) (event : Event) (back : List Event) → outstanding h link ≡ front ++ event ∷ back → OutAt h link front event
  out-at front event back is =
      let n = sender_of link in
      let there : sent link (journal_at h n) ≡ (came h link ++ front) ++ event ∷ back =
      sent-parts ∙ ap (λ l. came h link ++ l) is ∙ sym (append_assoc (came h link) front (event ∷ back)) in
      let at = gathered-at (λ (y : Entry). event_made_on link y.what) (journal_at h n) (came h link ++ front) event back there in
      let stands : StandsAt h n at.at = record { node = sender-small link on; before = at.before; after = at.after; is = at.is } in
      let what = made_on-is link at.at.what event at.gives in
      record {
        made = made_of h n at.at event lawful stands what.0;
        on = same_link-true event.link link what.1;
        number = omega (arith, IsNumbered-at (came h link ++ front) event back (subst (λ l. IsNumbered l) there numbered), length-append (came h link) front);
        after = at.front_is;
      }

  -- the first of the outstanding events has the smallest clock of them
  pub first-oldest : (event : Event) (rest : List Event) → outstanding h link ≡ event ∷ rest → AllByRecursion (λ (e : Event). event.clock ≤ e.clock) rest
  first-oldest event rest is = all-by (λ (e : Event). event.clock ≤ e.clock) rest each
    where
      each : (before : List Event) (e : Event) (after : List Event) → rest ≡ before ++ e ∷ after → event.clock ≤ e.clock
      each before e after at =
          let n = sender_of link in
          let later = out-at (event ∷ before) e after (is ∙ ap (λ l. event ∷ l) at) in
          let first = gathered-at (λ (y : Entry). event_made_on link y.what) later.made.before (came h link) event before later.after in
          let within : StandsIn first.before first.at later.made.before = record { after = first.after; is = first.is } in
          let y = entry_with e.clock (Made e) in
          let less : first.at.clock < e.clock = within-earlier h n first.before first.at y lawful (made_stands h n e later.made) within in
          let stands = within_stands h n first.before first.at y (made_stands h n e later.made) within in
          omega (arith, less, made_clock h n first.at event lawful stands (made_on-is link first.at.what event first.gives).0)

  -- what was made on the link past what was taken
  pub made-out : (event : Event) → MadeAt h (sender_of link) event → event.link ≡ link → length (came h link) < event.number
      → (front : List Event) × (back : List Event) × (outstanding h link ≡ front ++ event ∷ back)
  made-out event m same past =
      let n = sender_of link in
      let there : sent link (journal_at h n) ≡ sent link m.before ++ event ∷ sent link m.after =
      ap (sent link) m.is ∙ subst (λ l. sent l (m.before ++ entry_with event.clock (Made event) ∷ m.after) ≡ sent l m.before ++ event ∷ sent l m.after) same (sent-split event m.before event.clock m.after) in
      let number : event.number ≡ length (sent link m.before) + 1 =
      (stands-due h n (entry_with event.clock (Made event)) lawful (made_stands h n event m)).number ∙ ap (λ l. length (sent l m.before) + 1) same in
      let place = suffix_place (sent link m.before) event (sent link m.after) (came h link) (outstanding h link) (sym sent-parts ∙ there) (omega (arith, number, past)) in
      (place.0, sent link m.after, place.1)
