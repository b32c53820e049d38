-- What the build, the trials and the promises cite of the check: beside its call they rely on these theorems, and on no other law of this crate.
-- Assumes nothing.

-- demand 2: a plan is called lawful exactly when it is, and is answered with its distance, its vehicles and its stops served
pub use Rattle.plan_laws.proofs.LawfulIff.{lawful_iff, lawful_totals}
-- the same of vehicles whose words the check calls lawful
pub use Rattle.plan_laws.proofs.PlanTold.{told_lawful, told_totals}
-- a vehicle that passes word by word keeps to its loads and has a timetable
pub use Rattle.plan_laws.proofs.Clear.{clear_loads, clear_timed}
pub use Rattle.plan_laws.proofs.Loads.{not_over}
-- a plan's stops are the day's, and it has no more vehicles than stops
pub use Rattle.plan_laws.proofs.PlanChecks.{known_all, busy_rounds}
-- the words of a vehicle, how many they are, and what they say
pub use Rattle.plan_laws.proofs.VehicleRounds.{round_length, rounds_append, around}
pub use Rattle.plan_laws.proofs.RoundChecks.{task_form}
-- earliest minutes are a timetable where they are in time, no timetable from the same or a later minute on is sooner, and the same of the
-- first words alone; so a vehicle's earliest minutes from E0 are its earliest timetable where it has one
pub use Rattle.plan_laws.proofs.EarliestLaws.{starts_keep, starts_first, prefix_kept, prefix_first, earliest_only, earliest_is}
-- a plan of the form has one list of rounds; two lawful plans have the same rounds exactly where the call says so
pub use Rattle.plan_laws.proofs.PlanTold.{formed_only}
pub use Rattle.plan_laws.proofs.SameRoundsLaws.{same_iff, different_iff}
