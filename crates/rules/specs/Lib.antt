-- The chapters, in the order of document 01.

-- How the definitions speak
pub mod Tests
pub mod Answers
pub mod Faults
pub mod Lists
-- Day file
pub mod DayFile
pub mod Fields
-- Plan and timetable
pub mod PlanWords
pub mod Plan
pub mod Timetable
pub mod Lawful
pub mod Cargo
pub mod Trip
pub mod Check
-- Greedy build
pub mod Home
pub mod Choice
pub mod Build
-- Trials
pub mod Neighbours
pub mod Edits
pub mod TrialList
pub mod Attempts
pub mod Search
-- Other calls
pub mod Bytes
pub mod VehiclePlace
pub mod SameRounds
-- Solomon instances: document 02, Q-6
pub mod TextFields
pub mod SolomonForm
pub mod SolomonDay
-- What can be refused: the calls' answers and buffers
pub mod AnswerValues
pub mod Planned
-- What is promised
pub mod Demands
