-- In settled histories what is gathered of what a service took is what is gathered of what was made on a link, where all that
-- gives something comes on that link (gathered-made, lists-made).
use Rattle.std.proofs.Common.{◌≡◌, ℕ, ◌<◌, Bool, false, List, [], Option, is_some, filter_map, ap, sym, ◌∙◌}
use Rattle.std.specs.List.{flat_map}
use Rattle.market_events.specs.declared.bodies.Body.{Body}
use Rattle.market_events.specs.declared.links.Link.{Link}
use Rattle.market_events.specs.Links.{sender_of, receiver_of, IsLink}
use Rattle.market_events.specs.Steps.{taken_bodies, made_on}
use Rattle.market_history.specs.Blocks.{services}
use Rattle.market_history.specs.Histories.{Histories, journal_at}
use Rattle.market_history.specs.Lawful.{IsLawful}
use Rattle.market_history.specs.Outstanding.{IsSettled}
use Rattle.market_laws.specs.Cuts.{steps_at}
use Rattle.market_laws.proofs.Views.Gathered.{gathered-kept}
use Rattle.market_laws.proofs.Settled.Passing.{joined-passing}
use Rattle.market_laws.proofs.Settled.Links.{ComesOn, filter-made}

module _ (h : Histories) (lawful : IsLawful h) (settled : IsSettled h) (s n : ℕ) (link : Link) (small : s < services) (lt : n < services) (on : IsLink link) (leaves : sender_of link ≡ n) (into : receiver_of link ≡ s) where
  -- in the order in which it was made
  pub gathered-made : {A : Type 0} (f : Body → Option A) → ComesOn s link (λ b. is_some (f b)) → filter_map f (taken_bodies (steps_at s (journal_at h s))) ≡ filter_map f (made_on link (steps_at n (journal_at h n)))
  gathered-made f comes =
      sym (gathered-kept f (taken_bodies (steps_at s (journal_at h s))))
      ∙ ap (filter_map f) (filter-made h lawful settled s n link small lt on leaves into (λ b. is_some (f b)) comes)
      ∙ gathered-kept f (made_on link (steps_at n (journal_at h n)))

  pub lists-made : {A : Type 0} (f : Body → List A) (keep : Body → Bool) → ((b : Body) → keep b ≡ false → f b ≡ []) → ComesOn s link keep
      → flat_map f (taken_bodies (steps_at s (journal_at h s))) ≡ flat_map f (made_on link (steps_at n (journal_at h n)))
  lists-made f keep none comes =
      joined-passing keep f none (taken_bodies (steps_at s (journal_at h s)))
      ∙ ap (flat_map f) (filter-made h lawful settled s n link small lt on leaves into keep comes)
      ∙ sym (joined-passing keep f none (made_on link (steps_at n (journal_at h n))))
