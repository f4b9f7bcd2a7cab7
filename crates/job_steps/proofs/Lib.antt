mod AfterUnits
mod GivenTexts
mod Givings
mod PartMade
mod Runs
