-- Why a run with a valid input ends well.
use Rattle.std.proofs.Common.{◌≡◌, ◌≢◌, ◌≤◌, ◌<◌, ℕ, List, length, Result, Ok, Err, ◌⊎◌, inl, inr, refl, sym, ◌∙◌, arith}
use Rattle.market.specs.Statuses.{input_rule_of}
use Rattle.market_events.specs.declared.requests.Request.{Request}
use Rattle.market_texts.specs.declared.workload.WorkRule.{WorkRule}
use Rattle.market.specs.declared.statuses.InputRule.{InputRule}
use Rattle.market.specs.declared.statuses.Status.{Status}
use Rattle.market.specs.declared.statuses.Status.TheVariants.{Done, Usage, InputTooLong, BadInput, ReadFault, WriteFault, OutOfMemory}
use Rattle.market.specs.Workload.{workload_of}

not_both : {A E : Type 0} (r : Result A E) (x : A) (e : E) → r ≡ Ok x → r ≡ Err e → ⊥
not_both r x e ok err = cc (sym ok ∙ err)

pub done_or_memory : (status : Status) (bytes : List ℕ) (requests : List Request) (source_rose sink_rose : Type 0)
    → length bytes ≤ 67_108_864 → workload_of bytes ≡ Ok requests → ¬ source_rose → ¬ sink_rose
    → status ≢ Usage → (status ≡ ReadFault → source_rose) → (status ≡ InputTooLong → 67_108_864 < length bytes)
    → ((n : ℕ) (rule : InputRule) → status ≡ BadInput n rule → (broken : WorkRule) × (workload_of bytes ≡ Err (n, broken)) × (rule ≡ input_rule_of broken))
    → (status ≡ WriteFault → sink_rose) → (status ≡ Done) ⊎ (status ≡ OutOfMemory)
done_or_memory Done bytes requests source sink within valid calm_in calm_out form read long bad write = inl refl
done_or_memory Usage bytes requests source sink within valid calm_in calm_out form read long bad write = absurd (form refl)
done_or_memory InputTooLong bytes requests source sink within valid calm_in calm_out form read long bad write = absurd (omega (arith, long refl))
done_or_memory (BadInput n rule) bytes requests source sink within valid calm_in calm_out form read long bad write =
    let b = bad n rule refl in absurd (not_both (workload_of bytes) requests (n, b.0) valid b.1)
done_or_memory ReadFault bytes requests source sink within valid calm_in calm_out form read long bad write = absurd (calm_in (read refl))
done_or_memory WriteFault bytes requests source sink within valid calm_in calm_out form read long bad write = absurd (calm_out (write refl))
done_or_memory OutOfMemory bytes requests source sink within valid calm_in calm_out form read long bad write = inr refl
