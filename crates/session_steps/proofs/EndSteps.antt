-- Settlings of a session in code, and its end.
use Rattle.std.proofs.Common.{◌≡◌, ⊎_elim, ℕ, List, [], refl, sym, ap, ◌∙◌, subst}
use Rattle.dhash_model.specs.Signed.{hss_judged}
use Rattle.dht_ids.specs.declared.post.Ack.{Ack}
use Rattle.dhash_client.specs.GetHead.{Judges}
use Rattle.agent_model.specs.Others.{settled}
use Rattle.session_model.specs.Executions.Settles.{settles as settles_all}
use Rattle.session_model.specs.Sessions.{Cache, Over, Publishing, Session, TakesSome}
use Rattle.ivy_session.specs.declared.served.Served.{Served}
use Rattle.ivy_session.specs.declared.session.Next.TheVariants as next
use Rattle.ivy_session.specs.States.{SessionState}
use Rattle.ivy_session.specs.Stepping.{NextIs}
use Rattle.ivy_session.specs.Stepping.NextIs.{settles as next_settles, is_over, lacks_memory as next_lacks, is_cut as next_cut, is_unrouted}
use Rattle.ivy_session.proofs.Ended.{over_has_asked, over_is_past}
use Rattle.ivy_session.proofs.Hearing.{publishing_now}
use Rattle.ivy_session.proofs.Staying.{taken_same, takes_later}
use Rattle.world_model.specs.World.{Participant, with_participant}
use Rattle.world_model.specs.Steps.{Configuration, with_cache}
use Rattle.world_model.specs.Steps.Acts.{settles as acts_settles}
use Rattle.world_model.specs.Steps.Steps.{acts, lacks_memory}
use Rattle.session_steps.specs.Laws.{DoneIsOver, SettlingsAreSteps}
use Rattle.session_steps.specs.Configurations.{IsDone, IsConfigurationOf, IsStep, given_at}
use Rattle.session_steps.specs.Configurations.IsDone.{was_over, lacks_memory as done_lacking, is_cut as done_cut}
use Rattle.session_steps.specs.Configurations.IsLeft.{goes_on as left_on}
use Rattle.session_steps.proofs.ConfigurationSteps.{as_ring, lacking_gives, some_gives, twice_placed}

module _ {J : Type 0} (judges : Judges J) (c : Configuration) (r : ℕ) (p : Participant) (old : SessionState J) (is : IsConfigurationOf judges c r p old) where
  module _ (new : SessionState J) (after : Cache) where
    settles_so : (acks : List Ack) → NextIs judges old new c.session p.cache after (next.Settle acks) → IsStep judges c r new ⊥ (with_participant c.world (record p { agent = settled p.agent acks; cache = after })) (given_at c.session.stage)
    settles_so acks (next_settles said _ at free stays session) =
        let is_at : c.session.stage ≡ Publishing said [] acks = ⊎_elim (λ e. e) (λ nobody. absurd (is.some_entry nobody.0)) at in
        record {
          next = record c { world = with_participant (with_participant c.world p) (record p { agent = settled p.agent acks }); session = record c.session { stage = Over said } };
          steps = acts p c.session p.cache _ is.is_by (takes_later c.session p.cache (publishing_now c.session said [] acks is_at)) (acts_settles (settled p.agent acks) _ (settles_all said acks is_at));
          left = left_on session (over_has_asked judges (record c.session { stage = Over said }) new said refl session) (over_is_past judges (record c.session { stage = Over said }) new said refl session);
          world = twice_placed c.world p (record p { agent = settled p.agent acks }) refl ∙ ap (λ (cache : Cache). with_participant c.world (record p { agent = settled p.agent acks; cache = cache })) (sym stays);
          gives = sym (ap given_at is_at);
        }

    done_so : (told : Served) → NextIs judges old new c.session p.cache after (next.Done told) → IsDone c r p new after told
    done_so _ (is_over said at stays noted) = was_over said at refl noted stays
    done_so _ (next_lacks t u said takes lacking at noted) =
        done_lacking (with_cache hss_judged r c p u after) said
        (lacks_memory p t u after is.is_by (as_ring judges c r p old is (λ judged n. TakesSome judged n c.session p.cache t after) takes) lacking) at refl ((lacking_gives lacking).0 ∙ sym (lacking_gives lacking).1 ∙ some_gives takes) noted refl
    done_so _ (next_cut said posts acks at cut noted stays) = done_cut cut
    done_so _ (is_unrouted t told takes nobody) = absurd (is.some_entry (subst (λ (s : Session). s.entries ≡ []) (taken_same takes) nobody.none))

pub settlings_are_steps : {J : Type 0} → SettlingsAreSteps J
settlings_are_steps judges c r p old new after acks is wanted = settles_so judges c r p old is new after acks (wanted.1 c.session is.session)

pub done_is_over : {J : Type 0} → DoneIsOver J
done_is_over judges c r p old new after told is wanted = done_so judges c r p old is new after told (wanted.1 c.session is.session)
