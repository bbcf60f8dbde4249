-- What `==` says of the merger's views: whether they are the same but for their counts.
use Rattle.std.proofs.Common.{◌≡◌, true, refl, sym, ap, subst}
use Rattle.std.proofs.Math.Bool.{true≢false}
use Rattle.std.proofs.lemmas.Bool.Decides.{Decides-like}
use Rattle.std.specs.Bool.{Decides}
use Rattle.std.specs.Cmp.{unsigned_Decides, booleans_Decides}
use Rattle.clsm_model.proofs.Equals.{Decides-by_same, option_eq-Decides}
use Rattle.clsm_law.specs.Same.{uncounted_merger, uncounted_reader}
use Rattle.clsm_law.proofs.Equal.Views.{◌&◌, along-Decides}
use Rattle.clsm_law.specs.declared.merger.Phase.{Phase}
use Rattle.clsm_law.specs.declared.merger.Phase.TheVariants.{Clean, Frozen, Retired}
use Rattle.clsm_law.specs.declared.merger.Round.{Round}
use Rattle.clsm_law.specs.declared.merger.Reader.{Reader}
use Rattle.clsm_law.specs.declared.merger.MergerView.{MergerView}
use Rattle.clsm_law.specs.contracts.merger.PhasePartialEq.TheImpl as of_phases
use Rattle.clsm_law.specs.contracts.merger.PhaseEq.TheImpl.Laws as phase_laws
use Rattle.clsm_law.specs.contracts.merger.RoundPartialEq.TheImpl as of_rounds
use Rattle.clsm_law.specs.contracts.merger.RoundEq.TheImpl.Laws as round_laws
use Rattle.clsm_law.specs.contracts.merger.ReaderPartialEq.TheImpl as of_readers
use Rattle.clsm_law.specs.contracts.merger.ReaderEq.TheImpl.Laws as reader_laws
use Rattle.clsm_law.specs.contracts.merger.MergerViewPartialEq.TheImpl as of_mergers

phase-same : (a b : Phase) → of_phases.ghosts.eq a b ≡ true → a ≡ b
phase-same Clean Clean h = refl
phase-same Frozen Frozen h = refl
phase-same Retired Retired h = refl
phase-same _ _ h = absurd (true≢false (sym h))

pub Phase-Decides : (a b : Phase) → Decides (of_phases.ghosts.eq a b) (a ≡ b)
Phase-Decides = Decides-by_same phase_laws.laws-law phase-same

round-same : (a b : Round) → of_rounds.ghosts.eq a b ≡ true → a ≡ b
round-same a b h =
    let fields = (unsigned_Decides a.next b.next & option_eq-Decides unsigned_Decides a.least b.least).0 h in
    λ i. record { next = fields.0 i; least = fields.1 i }

pub Round-Decides : (a b : Round) → Decides (of_rounds.ghosts.eq a b) (a ≡ b)
Round-Decides = Decides-by_same round_laws.laws-law round-same

-- equal readers agree in every field but their count
reader-same : (a b : Reader) → of_readers.ghosts.eq a b ≡ true → uncounted_reader a ≡ uncounted_reader b
reader-same a b h =
    let fields = (option_eq-Decides unsigned_Decides a.first_pin b.first_pin & booleans_Decides a.quiet b.quiet).0 h in
    λ i. record { first_pin = fields.0 i; quiet = fields.1 i; looks = 0 }

pub Reader-Decides : (a b : Reader) → Decides (of_readers.ghosts.eq a b) (uncounted_reader a ≡ uncounted_reader b)
Reader-Decides a b = (
  reader-same a b,
  λ same. subst (λ r. of_readers.ghosts.eq (uncounted_reader a) r ≡ true) same
      (reader_laws.laws-law.refl (uncounted_reader a)),
)

-- two mergers are equal where they are the same without their counts
pub MergerView-Decides : (m n : MergerView) → Decides (of_mergers.ghosts.eq m n) (uncounted_merger m ≡ uncounted_merger n)
MergerView-Decides m n = Decides-like _
    (λ e. cc)
    (λ e. (
      ap MergerView.phase e,
      (
        ap MergerView.merged e,
        (
          ap MergerView.exclusive e,
          (
            ap MergerView.padded e,
            (
              ap MergerView.clock_extended e,
              (
                ap MergerView.limit_extended e,
                (
                  ap MergerView.floor e,
                  (
                    ap MergerView.round e,
                    (ap MergerView.merged_floor e, (ap MergerView.former_floor e, (ap MergerView.readers e))),
                  ),
                ),
              ),
            ),
          ),
        ),
      ),
    )) (
    Phase-Decides m.phase n.phase & unsigned_Decides m.merged n.merged & booleans_Decides m.exclusive n.exclusive & booleans_Decides m.padded n.padded
    & booleans_Decides m.clock_extended n.clock_extended & booleans_Decides m.limit_extended n.limit_extended
    & unsigned_Decides m.floor n.floor & option_eq-Decides Round-Decides m.round n.round
    & unsigned_Decides m.merged_floor n.merged_floor & unsigned_Decides m.former_floor n.former_floor
    & along-Decides uncounted_reader Reader-Decides m.readers n.readers)
