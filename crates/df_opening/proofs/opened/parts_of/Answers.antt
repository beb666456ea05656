-- The parts make sense by themselves: what was found is in its ranges, and the table is one of the file.
use Rattle.std.{proofs.Common.{◌≡◌, ◌∙◌, ℕ, List, refl, sym, ◌<◌, ◌≤◌, ◌^◌, length, ap, subst}, specs.Prelude.{None, false, true}}
use Rattle.{df_format.specs.SuperRules.{IsUsable}, df_model.specs.Work.{Request}, df_opening.specs.Survey.{Survey}}
use Rattle.df_damage.{specs.{Below.{ScrubState, Staged}, Types.{Surveyed}}, proofs.Laws.{found_awaits, found_ends, found_staging, second_super}}
use Rattle.df_opening.proofs.opened.parts_of.Goals as goal

pub returns-clause-found : goal.returns-clause-found
returns-clause-found c = let found = c.requires.found in let s : Surveyed = c.args.surveyed in
    let f = c.args.surveyed.scanned.copies.found.content in let usable : IsUsable f = c.fields-fields.ensures.usable in
    let cluster = subst (λ (n : ℕ). n < 2 ^ 128) (sym found.read.named) usable.fits.cluster in record {
      whole = record {
        state = record {
          in_file = record {
            cluster = cluster;
            version = sym found.read.version;
            second = second_super c.args.surveyed.scanned.file f (sym found.read.version ∙ c.requires.version) usable found.read.fields;
            sequence = usable.rules.sequence;
            root = subst (λ (bytes : List ℕ). length bytes ≤ 1024) c.as_slice-bytes.ensures.value c.as_slice-bytes.ensures.fits;
            ring = c.requires.planned.plan.is_table;
          };
          booted = λ live. absurd (let none : false ≡ true = live in cc);
          ends = found_ends s found usable.rules;
          awaits = found_awaits s found;
          staging = found_staging s c.clear.new.self.requests (ap (λ (x : Staged). x.requests) c.clear.ensures) found;
          captured = tt;
          course = found.read.idle;
        };
        rooms = record {
          rooms_fit = c.args.surveyed.scanned.rooms.log_fits ∙ c.args.surveyed.scanned.rooms_fit;
          trailer_fits = c.args.surveyed.scanned.rooms.trailer_fits ∙ c.args.surveyed.scanned.rooms_fit;
          scrub_fits = c.cleared-scrub.ensures.layout ∙ c.args.surveyed.scanned.rooms.scrub_fits ∙ c.args.surveyed.scanned.rooms_fit;
          staging_fits = ap (λ (x : Staged). x.layout) c.clear.ensures
              ∙ c.args.surveyed.scanned.rooms.staging_fits ∙ c.args.surveyed.scanned.rooms_fit;
        };
        grid = record { grid_fits = c.args.surveyed.scanned.rooms.grid_fits ∙ c.args.surveyed.scanned.rooms_fit; grid_named = c.args.surveyed.scanned.grid_named };
      };
      dead = refl;
      unspent = found.ends.unspent;
      unbooted = c.args.surveyed.scanned.grid_unbooted;
      unstaged = ap (λ (x : Staged). x.requests) c.clear.ensures;
      idle = refl;
      fresh = c.cleared-scrub.ensures.cleared;
    }

pub returns-clause-seen : goal.returns-clause-seen
returns-clause-seen c = let s = c.args.surveyed.scanned in let traces = c.args.surveyed.traces in
    let seen : List Request → ScrubState → ℕ → Survey = λ requests x boot. record {
      state = record {
        file = s.file;
        fields = s.copies.found.content;
        root = s.root.items;
        head = traces.tail.op;
        head_checksum = traces.tail.checksum;
        replies = traces.replies;
        table = s.sessions;
        waiting = c.args.surveyed.waiting.items;
        staged = requests;
        headers = s.rooms.log.headers;
        blocks = s.rooms.grid.blocks;
        running = None;
        tour = x.tour;
        findings = x.findings;
        boot = boot;
        live = false;
      };
      chosen = s.copies.found.chosen;
      mends = s.rooms.log.mends.items;
    } in (λ i. seen (c.clear.ensures i).requests (c.cleared-scrub.ensures.cleared i) (s.grid_unbooted i))
