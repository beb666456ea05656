-- All that damage can do to the answer of an open, put together.
use Rattle.{std.{proofs.Common.{◌≡◌, inl, inr, ℕ, subst}, specs.Prelude.{Ok, Err}}, df_disk.specs.Told.{Told}, df_theory.specs.View.{View}}
use Rattle.{df_model.specs.{Work.{opened}, declared.errors.OpenError.{OpenError, TheVariants.{DiskFault}}}, df_units.specs.Bytes.{unit_at}}
use Rattle.df_recovery.specs.{Surveys.{IsOpenedAs, SurveysAs}, Below.{DataFile, Represents, State, shape}}
use Rattle.df_damage.{specs.{Answers.{AnswerIsOfHurt, FindsHad, IsNeedless, RefusesHurt}, Disks.{MayBeHurtAs}, Openings.{OpensAsLeftAs}, Versions.{IsUnspent}}, proofs.{Files.{opened_file, opened_found}, Opened.{checkpoint_stays, found_was_had, headers_may_be_hurt_as, headers_tell, two_copies_are_enough_as}, Started.{hurt_may_begin}, Refused.{refusals_are_of_damage, refusals_blame_hurt}}}

module _ (version : ℕ)
    (file : DataFile) (view : View) (t : Told) (may : MayBeHurtAs version file view t) (unspent : IsUnspent version view) where
  needless : IsNeedless file t → OpensAsLeftAs version file view t
  needless (inl copies) = two_copies_are_enough_as version file view t may unspent copies.0 copies.1 copies.2
  needless (inr headers) = headers_may_be_hurt_as version file view t may unspent headers

  finds : (s : State) → IsOpenedAs version file.layout t.shown s → FindsHad file view t s
  finds s is = record {
    of = opened_file file view t may s is;
    found = is.view;
    is_found = opened_found file view t may s is;
    stands = subst (λ (x : DataFile).
        Represents s (opened (shape x) (unit_at file.layout x.cluster t.shown) is.view)) (opened_file file view t may s is) is.stands;
    had = (found_was_had version file view t s may is).1;
    checkpoint = λ rest two. checkpoint_stays version file view t s may rest two is;
    begins = λ same. hurt_may_begin version file view is.view t may (opened_found file view t may s is) same;
    headers = λ unhurt. (headers_tell version file view t s may unhurt is).0;
    whole = λ none. ((needless none).finds s is).1;
  }

  refuses : (e : OpenError) → SurveysAs version file.layout t.shown (Err e) → (e ≡ DiskFault → ⊥) → RefusesHurt file view t e
  refuses e is other = let both = refusals_are_of_damage version file view t e may unspent is other in
      record { damage = both.0; hurt = both.1; blames = λ rest two. refusals_blame_hurt version file view t e may unspent rest two is other; needed = λ none. other ((needless none).opens.answered e is) }

pub answer_is_of_hurt_as : AnswerIsOfHurt
answer_is_of_hurt_as version file view t (Ok s) may unspent is = finds version file view t may unspent s is
answer_is_of_hurt_as version file view t (Err e) may unspent is = λ other. refuses version file view t may unspent e is other
