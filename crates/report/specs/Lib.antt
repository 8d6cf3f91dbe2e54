-- The texts of reports.
pub mod ReportText
