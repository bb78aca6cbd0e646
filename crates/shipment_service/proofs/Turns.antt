-- The groups of some turns, and of one more.
use Rattle.std.proofs.Common.{◌≡◌, ℕ, ◌+◌, ◌<◌, List, [], ◌∷◌, ◌++◌, Option, length, take, get_or, add-one, refl, ap, sym, ◌∙◌, append-nil, append_assoc}
use Rattle.std.proofs.Math.Seq.{take-suc}
use Rattle.market_events.specs.declared.bodies.Item.{Item}
use Rattle.shipment_service.specs.Tables.{put_at, group_of, queue_at, groups_of}
use Rattle.shipment_service.proofs.Numbers.{put_at-append}

pub groups_of-append : (queues : List (ℕ × List (ℕ × Item))) (ts us : List (ℕ × ℕ)) → groups_of queues (ts ++ us) ≡ groups_of queues ts ++ groups_of queues us
groups_of-append queues [] us = refl
groups_of-append queues (t ∷ ts) us =
    ap (λ gs. group_of (queue_at queues t.1) ++ gs) (groups_of-append queues ts us) ∙ sym (append_assoc (group_of (queue_at queues t.1)) (groups_of queues ts) (groups_of queues us))

pub groups_of-more : (queues : List (ℕ × List (ℕ × Item))) (ts : List (ℕ × ℕ)) (i : ℕ) (d : ℕ × ℕ) (n : ℕ) (o : Option Item) → i < length ts
    → put_at n o (groups_of queues (take (i + 1) ts)) ≡ put_at n (put_at n o (groups_of queues (take i ts))) (group_of (queue_at queues (get_or ts i d).1))
groups_of-more queues ts i d n o below =
    let next : take (i + 1) ts ≡ take i ts ++ get_or ts i d ∷ [] = rw add-one (take-suc ts i d below) in
    ap (λ us. put_at n o (groups_of queues us)) next ∙ ap (put_at n o) (groups_of-append queues (take i ts) (get_or ts i d ∷ []))
    ∙ put_at-append n o (groups_of queues (take i ts)) (group_of (queue_at queues (get_or ts i d).1) ++ [])
    ∙ ap (put_at n (put_at n o (groups_of queues (take i ts)))) (append-nil (group_of (queue_at queues (get_or ts i d).1)))
