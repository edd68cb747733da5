-- Licence dates: the calendar, days as eight digits, the calls on them; and their laws.
pub mod CalendarDays
pub mod MonthLaws
pub mod CalendarLaws
pub mod RenewalLaws
pub mod DateWrittenLaws
pub mod Licence
pub mod TermSteps
pub mod LicenceExamples
