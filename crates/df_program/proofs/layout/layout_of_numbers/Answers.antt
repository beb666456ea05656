-- Where a number of the five is missing the name has no layout; where they are there it has the one that is made.
use Rattle.std.proofs.Common.{arith, rules}
use Rattle.df_program.proofs.Commas.{no_slots, no_message_size, no_clients, no_block_size, no_blocks, behind_slots, behind_message_size, behind_clients, behind_block_size, five, made, unmade}
use Rattle.df_program.proofs.layout.layout_of_numbers.Goals as goal

pub returns-in_err-slots-clause-none : goal.returns-in_err-slots-clause-none
returns-in_err-slots-clause-none c = rw c.from_residual.ensures (no_slots _ c.in_err-slots.ensures.none)

pub returns-in_err-message_size-clause-none : goal.returns-in_err-message_size-clause-none
returns-in_err-message_size-clause-none c = rw c.from_residual-in_err-message_size.ensures (behind_slots _ _ _
    (record { is = c.in_ok-slots.ensures.found; fits = c.in_ok-slots.ensures.fits }) (no_message_size _ c.in_err-message_size.ensures.none))

pub returns-in_err-clients-clause-none : goal.returns-in_err-clients-clause-none
returns-in_err-clients-clause-none c = rw c.from_residual-in_err-clients.ensures
    (behind_slots _ _ _ (record { is = c.in_ok-slots.ensures.found; fits = c.in_ok-slots.ensures.fits })
    (behind_message_size _ _ _ (record { is = c.in_ok-message_size.ensures.found; fits = c.in_ok-message_size.ensures.fits })
    (no_clients _ c.in_err-clients.ensures.none)))

pub returns-in_err-block_size-clause-none : goal.returns-in_err-block_size-clause-none
returns-in_err-block_size-clause-none c = rw c.from_residual-in_err-block_size.ensures
    (behind_slots _ _ _ (record { is = c.in_ok-slots.ensures.found; fits = c.in_ok-slots.ensures.fits })
    (behind_message_size _ _ _ (record { is = c.in_ok-message_size.ensures.found; fits = c.in_ok-message_size.ensures.fits })
    (behind_clients _ _ _ (record { is = c.in_ok-clients.ensures.found; fits = c.in_ok-clients.ensures.fits })
    (no_block_size _ c.in_err-block_size.ensures.none))))

pub returns-in_err-blocks-clause-none : goal.returns-in_err-blocks-clause-none
returns-in_err-blocks-clause-none c = rw c.from_residual-in_err-blocks.ensures
    (behind_slots _ _ _ (record { is = c.in_ok-slots.ensures.found; fits = c.in_ok-slots.ensures.fits })
    (behind_message_size _ _ _ (record { is = c.in_ok-message_size.ensures.found; fits = c.in_ok-message_size.ensures.fits })
    (behind_clients _ _ _ (record { is = c.in_ok-clients.ensures.found; fits = c.in_ok-clients.ensures.fits })
    (behind_block_size _ _ _ (record { is = c.in_ok-block_size.ensures.found; fits = c.in_ok-block_size.ensures.fits })
    (no_blocks _ _ c.in_err-blocks.ensures.none c.as_bytes.ensures.value)))))

pub returns : goal.returns
returns c = let whole = five _ _ _ _ _ _ _ _ _ _ _ (record { is = c.in_ok-slots.ensures.found; fits = c.in_ok-slots.ensures.fits })
    (record { is = c.in_ok-message_size.ensures.found; fits = c.in_ok-message_size.ensures.fits })
    (record { is = c.in_ok-clients.ensures.found; fits = c.in_ok-clients.ensures.fits })
    (record { is = c.in_ok-block_size.ensures.found; fits = c.in_ok-block_size.ensures.fits })
    c.as_bytes.ensures.value c.in_ok-blocks.ensures.found (omega arith) in record {
      found = made _ _ _ _ _ _ c.new.result c.ok.result whole
          c.ok.ensures.value c.new.ensures.slots c.new.ensures.message_size c.new.ensures.clients c.new.ensures.block_size (search rules);
      none = unmade _ _ _ _ _ _ c.new.result c.ok.result whole c.ok.ensures.value c.new.ensures.within;
    }
