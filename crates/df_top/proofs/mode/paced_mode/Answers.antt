-- Where a number is missing, or is too great, the words have no meaning.
use Rattle.df_top.proofs.Modes.{only_paced}
use Rattle.df_top.proofs.mode.paced_mode.Goals as goal

pub returns-in_err-scrub-clause-none : goal.returns-in_err-scrub-clause-none
returns-in_err-scrub-clause-none c = rw c.from_residual.ensures (only_paced c.args.scrub.now c.args.every.now
    c.args.steps.now (λ p scrub every steps few_scrub few_every few_steps. c.in_err-scrub.ensures.none p.scrub few_scrub scrub))

pub returns-in_err-every-clause-none : goal.returns-in_err-every-clause-none
returns-in_err-every-clause-none c = rw c.from_residual-in_err-every.ensures (only_paced c.args.scrub.now c.args.every.now
    c.args.steps.now (λ p scrub every steps few_scrub few_every few_steps. c.in_err-every.ensures.none p.every few_every every))

pub returns-in_err-steps-clause-none : goal.returns-in_err-steps-clause-none
returns-in_err-steps-clause-none c = rw c.from_residual-in_err-steps.ensures (only_paced c.args.scrub.now c.args.every.now
    c.args.steps.now (λ p scrub every steps few_scrub few_every few_steps. c.in_err-steps.ensures.none p.steps few_steps steps))
